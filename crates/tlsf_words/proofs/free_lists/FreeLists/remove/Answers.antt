use Rattle.tlsf_words.proofs.Common.{◌≡◌, ap, ◌∙◌, arith, class_of}
use Rattle.tlsf_class.proofs.Lows.{low-first, low-most, low-rises_or_same}
use Rattle.tlsf_class.proofs.ClassOfSize.{class_of-low}
use Rattle.tlsf_words.proofs.free_lists.FreeLists.remove.Goals as goal

pub unlink-requires : goal.unlink-requires
unlink-requires g c =
    let n = c.number-number.ensures in
    let same : class_of g.row.SLI c.low.result ≡ c.args.class = ap (class_of g.row.SLI) c.low.ensures ∙ class_of-low g.row.SLI n.level c.args.class n.least n.most in (
      omega arith,
      (
        n.level,
        (
          omega (arith, c.low.ensures, low-first g.row.SLI n.level, low-rises_or_same g.row.SLI n.level 4 c.args.class n.least (omega (arith, n.most))),
          (
            omega (arith, c.low.ensures, low-most g.row.SLI n.level c.args.class n.most),
            (c.requires.threaded, rw same c.requires.listed),
          ),
        ),
      ),
    )

pub returns-clause-lists : goal.returns-clause-lists
returns-clause-lists g c =
    let n = c.number-number.ensures in
    let same : class_of g.row.SLI c.low.result ≡ c.args.class = ap (class_of g.row.SLI) c.low.ensures ∙ class_of-low g.row.SLI n.level c.args.class n.least n.most in
    rw same at c.unlink.ensures.lists
