use Rattle.tlsf_heap.proofs.Common.{◌≡◌, ◌+◌, List, ℕ, Bool, length, sym, ap, ◌∙◌, eq-eqb, cond, subst, arith, Begins, OnlyHeaders, Image, image_of}
use Rattle.tlsf_heap.proofs.lemmas.words.Checks.{same_image, sound_up_to}
use Rattle.tlsf_heap.proofs.check.check_words.Goals as goal

pub returns-then-end-len-clause-answer : goal.returns-then-end-len-clause-answer
returns-then-end-len-clause-answer c =
    let up_to = sound_up_to c.loop-count.invariant.looks c.loop-count.invariant.sound c.in-Some.ensures.answer in
    let whole : c.in-Some.end ≡ length c.args.words.now.words =
    c.if-end-len.true ∙ c.len.ensures.words ∙ ap (λ (words : List ℕ). length words) (c.examine.ensures.looks.words ∙ c.loop-count.invariant.looks.words) in (
      c.begins.ensures.yes c.if-not-begins.false,
      record {
        count = c.loop-count._count + 1;
        end = c.in-Some.end;
        sound = up_to.sound;
        within = omega arith;
        whole = λ fewer. whole;
        next_is = sym (ap (λ (is_end : Bool). cond is_end 0 c.in-Some.end) (eq-eqb _ _ whole));
      },
    )

pub loop-count-preserved : goal.loop-count-preserved
loop-count-preserved c =
    let up_to = sound_up_to c.loop-count.invariant.looks c.loop-count.invariant.sound c.in-Some.ensures.answer in
    let looks = c.examine.ensures.looks in
    let before = c.loop-count.invariant.looks in
    let as_long = ap (λ (words : List ℕ). length words) (looks.words ∙ before.words) in
    record {
      sound = up_to.sound;
      begins = subst (Begins (image_of c.args.words.now)) (sym up_to.ends) (up_to.here.behind (omega (arith, up_to.here.ends, up_to.ends, as_long))).begins;
      far = omega (arith, up_to.here.least, up_to.ends);
      looks = record {
        words = looks.words ∙ before.words;
        starts = looks.starts ∙ before.starts;
        stays = looks.stays ∙ before.stays;
        touches = omega (arith, looks.touches, before.touches);
        rise = omega (arith, looks.rise, before.rise);
      };
      touched = λ k other. subst (λ (m : Image). OnlyHeaders m c.loop-count.words.touched c.examine.new.words.touched) (same_image before) c.examine.ensures.touched k other ∙ c.loop-count.invariant.touched k other;
    }
