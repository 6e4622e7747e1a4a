use Rattle.tlsf_crew.proofs.Common.{◌≡◌, ◌∙◌, ◌∷◌, ◌++◌, arith, refl, sym, ap, Some, None, option_copied_mut, slice_get_within, post_extent, take_extent, extent_of, end_extents}
use Rattle.tlsf_crew.proofs.lemmas.worker.StandingEnd.{same_end, end_stands}
use Rattle.tlsf_crew.proofs.lemmas.worker.Slots.{same_extents}
use Rattle.tlsf_crew.proofs.lanes.pairs.settle_pair.Goals as goal

pub returns : goal.returns
returns g c =
    let e = c.beside.ensures in
    let a_ports = c.args.poster.now.ports in
    let b_ports = c.args.taker.now.ports in
    let p = c.requires.0 in
    let t = c.requires.1 in
    let a : Some c.in-Some.post.now ≡ c.index_mut.result.now = sym (ap option_copied_mut c.in-Some.is) ∙ c.as_mut.ensures.value in
    let b : Some c.in-Some-as_mut.take.now ≡ c.index_mut-2.result.now = sym (ap option_copied_mut c.in-Some-as_mut.is) ∙ c.as_mut-2.ensures.value in
    let pe : c.in-Some.post.now ≡ p = same_end _ c.args.poster.now.ports.posts.items c.args.j _ _ c.index_mut.ensures.value c.requires.2 a in
    let te : c.in-Some-as_mut.take.now ≡ t = same_end _ c.args.taker.now.ports.takes.items c.args.i _ _ c.index_mut-2.ensures.value c.requires.3 b in
    record {
      post = p;
      take = t;
      new_post = c.beside.new.post;
      new_take = c.beside.new.take;
      post_is = c.requires.2;
      take_is = c.requires.3;
      beside = record { lane = e.lane; order = rw (← pe, ← te) e.order; fresh = e.fresh; capacity = rw (← pe) e.capacity; room = e.room };
      posts = refl;
      takes = refl;
      same_poster = (refl, refl, refl);
      same_taker = (refl, refl, refl);
      poster_stays = (refl, ap (λ l. extent_of a_ports.posts ∷ extent_of a_ports.takes ∷ l ++ end_extents take_extent a_ports.takes.items) (same_extents post_extent a_ports.posts.items c.args.j p c.beside.new.post c.requires.2 (e.stays.0 ∙ ap post_extent pe)));
      taker_stays = (refl, ap (λ l. extent_of b_ports.posts ∷ extent_of b_ports.takes ∷ end_extents post_extent b_ports.posts.items ++ l) (same_extents take_extent b_ports.takes.items c.args.i t c.beside.new.take c.requires.3 (e.stays.1 ∙ ap take_extent te)));
    }

pub index_mut-requires : goal.index_mut-requires
index_mut-requires g c =
    let l = c.args.poster.now.ports.posts.ok in
    omega (arith, slice_get_within c.args.poster.now.ports.posts.items c.args.j (Some c.requires.0) c.requires.2)

pub index_mut-requires-2 : goal.index_mut-requires-2
index_mut-requires-2 g c =
    let l = c.args.taker.now.ports.takes.ok in
    omega (arith, slice_get_within c.args.taker.now.ports.takes.items c.args.i (Some c.requires.1) c.requires.3)

pub unreachable-requires : goal.unreachable-requires
unreachable-requires g c =
    let none : None ≡ c.index_mut.result.now = sym (ap option_copied_mut c.in_default.is) ∙ c.as_mut.ensures.value in
    absurd (end_stands _ c.args.poster.now.ports.posts.items c.args.j _ c.index_mut.ensures.value c.requires.2 none)

pub unreachable-requires-in_default-as_mut : goal.unreachable-requires-in_default-as_mut
unreachable-requires-in_default-as_mut g c =
    let none : None ≡ c.index_mut-2.result.now = sym (ap option_copied_mut c.in_default-as_mut.is) ∙ c.as_mut-2.ensures.value in
    absurd (end_stands _ c.args.taker.now.ports.takes.items c.args.i _ c.index_mut-2.ensures.value c.requires.3 none)

pub beside-requires : goal.beside-requires
beside-requires g c =
    let a : Some c.in-Some.post.now ≡ c.index_mut.result.now = sym (ap option_copied_mut c.in-Some.is) ∙ c.as_mut.ensures.value in
    let b : Some c.in-Some-as_mut.take.now ≡ c.index_mut-2.result.now = sym (ap option_copied_mut c.in-Some-as_mut.is) ∙ c.as_mut-2.ensures.value in
    let pe : c.in-Some.post.now ≡ c.requires.0 = same_end _ c.args.poster.now.ports.posts.items c.args.j _ _ c.index_mut.ensures.value c.requires.2 a in
    let te : c.in-Some-as_mut.take.now ≡ c.requires.1 = same_end _ c.args.taker.now.ports.takes.items c.args.i _ _ c.index_mut-2.ensures.value c.requires.3 b in
    rw (pe, te) c.requires.4
