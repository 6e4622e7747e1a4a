use Rattle.tlsf_heap.proofs.Common.{rules, ◌≡◌, ℕ, ◌+◌, ◌-◌, ◌∷◌, refl, sym, ap, ◌∙◌, subst, arith, class_of, list_in}
use Rattle.tlsf_class.proofs.TwoLevels.{most_words_any}
use Rattle.tlsf_heap.proofs.lemmas.words.Free.{with_previous_are}
use Rattle.tlsf_heap.proofs.lemmas.lists.Withheld.{tagged, ahead_is, ahead_region, ahead_out, nothing_out, end_within, before_within, contains_previous, withheld_listed, rest_unlisted, merged_listed}
use Rattle.tlsf_words.proofs.Touching.{more_groups}
use Rattle.tlsf_heap.proofs.fitting.merge_before.Goals as goal

pub with_previous-whole-requires-clause-fits : goal.with_previous-whole-requires-clause-fits
with_previous-whole-requires-clause-fits g c =
    let t = tagged g.row.SLI c.requires.live c.requires.tags c.requires.region in
    let unfree = sym c.is_free.ensures ∙ c.if-is_free.false in
    let some = c.requires.some in
    omega (arith, t.tags.is_previous.size some, c.as_free.ensures.size, t.tags.is_own.size, before_within g.row.SLI t.between, end_within g.row.SLI t.between, c.requires.region.order.small, most_words_any g.row.SLI)

pub take_in-requires : goal.take_in-requires
take_in-requires g c =
    let t = tagged g.row.SLI c.requires.live c.requires.tags c.requires.region in
    let unfree = sym c.is_free.ensures ∙ c.if-is_free.false in
    let some = c.requires.some in
    let whole = c.with_previous-whole.ensures in
    let are = with_previous_are t.tags whole.free c.size-before.ensures.value unfree some (whole.size ∙ ap (λ n. c.args.previous.size + n) c.as_free.ensures.size) (whole.last ∙ c.as_free.ensures.last) whole.back in
    let ahead = ahead_is g.row.SLI t some c.size-before.ensures.value in
    let out = nothing_out g.row.SLI (t.tags.is_next.live unfree) in (
      omega arith,
      (
        c.requires.region.order.level,
        (
          ahead_region g.row.SLI t some c.size-before.ensures.value,
          (
            (t.i, t.between.stands, are),
            (
              omega (arith, are.size, before_within g.row.SLI t.between, end_within g.row.SLI t.between, c.requires.region.order.small),
              (
                rw ahead (contains_previous g.row.SLI t.between out (t.tags.is_previous.some some)),
                λ left is k low high. rest_unlisted g.row.SLI t.between (withheld_listed g.row.SLI t.between out (ahead_out g.row.SLI t some c.size-before.ensures.value is) (λ class. refl) t.i t.between.stands) k (omega (arith, low, are.before)) (omega (arith, high, are.size, are.before, before_within g.row.SLI t.between)),
              ),
            ),
          ),
        ),
      ),
    )

pub returns-clause-relists : goal.returns-clause-relists
returns-clause-relists g c =
    let t = tagged g.row.SLI c.requires.live c.requires.tags c.requires.region in
    let unfree = sym c.is_free.ensures ∙ c.if-is_free.false in
    let some = c.requires.some in
    let whole = c.with_previous-whole.ensures in
    let are = with_previous_are {tag = c.with_previous-whole.result} t.tags whole.free c.size-before.ensures.value unfree some (whole.size ∙ ap (λ n. c.args.previous.size + n) c.as_free.ensures.size) (whole.last ∙ c.as_free.ensures.last) whole.back in
    let ahead = ahead_is g.row.SLI t some c.size-before.ensures.value in
    let out = nothing_out g.row.SLI (t.tags.is_next.live unfree) in
    let lists = c.take_in.ensures.lists in
    let left = withheld_listed g.row.SLI t.between out (ahead_out g.row.SLI t some c.size-before.ensures.value lists.without) (λ class. refl) t.i t.between.stands in
    let new = c.take_in.new.region in
    record {
      listed = merged_listed g.row.SLI t.between left new.blocks (c.take_in.ensures.blocks t.i t.between.stands) (class_of g.row.SLI c.with_previous-whole.result.size) lists.left (list_in new.lists) (ap (class_of g.row.SLI) are.size) (λ class. refl)
          (subst (λ (n : ℕ). list_in new.lists (class_of g.row.SLI c.with_previous-whole.result.size) ≡ (c.args.at - n) ∷ lists.left (class_of g.row.SLI c.with_previous-whole.result.size)) ahead lists.list) lists.others;
      edits = search rules;
      touched = c.take_in.ensures.touched;
      groups = more_groups (omega arith) c.take_in.ensures.groups;
    }
