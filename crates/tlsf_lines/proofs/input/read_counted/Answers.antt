use Rattle.tlsf_lines.proofs.Common.{◌≡◌, ◌<◌, ◌^◌, ◌++◌, ◌∙◌, length, take, arith, length-append, length-take, count_by, eqb, common_steps, pieces_of}
use Rattle.std.proofs.KnownBytes.{Consumes-trans}
use Rattle.tlsf_lines.proofs.PieceCounts.{length-pieces_of-append, feeds_of_both}
use Rattle.tlsf_lines.specs.declared.limit.Limit.TheVariants.{Bytes, Lines}
use Rattle.tlsf_lines.proofs.LongInputs.{over_named}
use Rattle.tlsf_lines.proofs.ReadSteps.{gave_bytes}
use Rattle.tlsf_lines.proofs.input.read_counted.Goals as goal

pub returns-then-len-piece-clause-too_long : goal.returns-then-len-piece-clause-too_long
returns-then-len-piece-clause-too_long g c =
    let old = c.loop-text.text.items in
    let piece = take c.in_ok-taken.taken c.read.new.buffer in
    let given = Consumes-trans _ _ _ _ _ c.loop-text.invariant.consumed c.in_ok-taken.ensures.bytes.0 in
    let joined = length-append old piece in
    let many : 2 ^ 20 < length (old ++ piece) = omega (arith, joined, c.len.ensures, c.if-len-piece.true) in
    let next = c.in_ok-taken.ensures.next in
    λ limit is. (
      old ++ piece,
      given,
      omega (
        arith,
        joined,
        c.loop-text.invariant.reads,
        next.was_left,
        next.left,
        c.in_ok-taken.ensures.bound,
        length-take c.in_ok-taken.taken c.read.new.buffer,
        c.if-taken-eq0.false,
      ),
      over_named Bytes limit _ _ is many,
    )

pub returns-then-line_feeds-count_open_lines-gt-MOST_LINES-clause-too_long :
    goal.returns-then-line_feeds-count_open_lines-gt-MOST_LINES-clause-too_long
returns-then-line_feeds-count_open_lines-gt-MOST_LINES-clause-too_long g c =
    let old = c.loop-text.text.items in
    let piece = take c.in_ok-taken.taken c.read.new.buffer in
    let given = Consumes-trans _ _ _ _ _ c.loop-text.invariant.consumed c.in_ok-taken.ensures.bytes.0 in
    let joined = length-append old piece in
    let some : 0 < length piece = omega (arith, length-take c.in_ok-taken.taken c.read.new.buffer, c.in_ok-taken.ensures.bound, c.if-taken-eq0.false) in
    let many : 32768 < length (pieces_of (old ++ piece)) = omega (
      arith,
      length-pieces_of-append old piece some,
      c.count_line_feeds-line_feeds.ensures,
      c.count_open_lines.ensures,
      c.loop-text.invariant.feeds,
      c.if-line_feeds-count_open_lines-gt-MOST_LINES.true,
    ) in
    let next = c.in_ok-taken.ensures.next in
    λ limit is. (old ++ piece, given, omega (arith, joined, some, c.loop-text.invariant.reads, next.was_left, next.left), over_named Lines limit _ _ is many)

pub loop-text-preserved : goal.loop-text-preserved
loop-text-preserved g c =
    let old = c.loop-text.text.items in
    let piece = take c.in_ok-taken.taken c.read.new.buffer in
    let added : c.extend_from_slice.new.self.items ≡ old ++ piece = grind (arith, common_steps) in
    let given = Consumes-trans _ _ _ _ _ c.loop-text.invariant.consumed c.in_ok-taken.ensures.bytes.0 in
    let some : 0 < length piece = omega (arith, length-take c.in_ok-taken.taken c.read.new.buffer, c.in_ok-taken.ensures.bound, c.if-taken-eq0.false) in
    let pieces = length-pieces_of-append old piece some in
    let joined = length-append old piece in
    let feeds : c.count_line_feeds-line_feeds.result ≡ count_by (λ b. eqb b 10) piece = c.count_line_feeds-line_feeds.ensures in
    let next = c.in_ok-taken.ensures.next in
    record {
      consumed = rw added given;
      feeds = rw added (omega (arith, feeds_of_both old piece, c.loop-text.invariant.feeds, feeds));
      limits = record {
        bytes = rw added (omega (arith, joined, c.len.ensures, c.if-len-piece.false, c.loop-text.invariant.limits.bytes));
        lines = rw added (omega (arith, pieces, feeds, c.count_open_lines.ensures, c.loop-text.invariant.feeds, c.if-line_feeds-count_open_lines-gt-MOST_LINES.false));
      };
      buffer = grind (arith, common_steps);
      reads = rw added (omega (arith, joined, some, c.loop-text.invariant.reads, next.was_left, next.left));
      going = next.last ∙ gave_bytes c.in_ok-taken.taken (omega (arith, c.if-taken-eq0.false));
    }
