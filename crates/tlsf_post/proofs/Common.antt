-- The names that most proofs of this crate cite, passed on from one place. Declares nothing.
pub use Rattle.crossbeam_queue.specs.Passes.{Pass, view, IsPassOf, ruled_capacity}
pub use Rattle.rtrb.specs.Ring.{received, sent}
pub use Rattle.std.proofs.Common.{ap, sym, ◌∙◌, ◌≡◌, ◌++◌, [], arith, subst, ◌+◌, List, length, refl, ℕ, ◌<◌, ◌≤◌, ◌∷◌, All, append_assoc, ◌≢◌, inl, inr, map, ⊎_elim, ◌-◌, ◌⊎◌, append-nil, drop, eq-eqb, eqb, false, length-append, ne_eqb, rules, suc, true, vec_len, zero, Some, cond, length-drop, not, set, take, true≢false, vec_capacity}
pub use Rattle.std.specs.Arc.{arc_value}
pub use Rattle.std.specs.Prelude.{MatchOption, None, Bool, IfNone, IfSome, IsTrue, Option, Option as Maybe}
pub use Rattle.std.proofs.lemmas.Bool.{cases_eq, cond-false, cond-true, cases_lt}
pub use Rattle.std.proofs.lemmas.Grind.{common_steps}
pub use Rattle.std.proofs.lemmas.List.{drop-append-le, map-append, same_from_push, take-append-drop}
pub use Rattle.std.proofs.lemmas.List.Elements.{All-push, All-tail, All-weaker, All-nil, All-pop, filter-append}
pub use Rattle.tlsf_post.specs.Lanes.{KeepsTake}
unfoldable pub use Rattle.tlsf_post.specs.Lanes.{waited, taken, ready, IsLane, posts_sent}
pub use Rattle.tlsf_post.specs.Mailboxes.{below_but, number_of, gone_from, owner_of, put_by, IsMailbox, KeepsOwner, OwnerSaw, got_by, most_of, out_of, owner_extent, plan_at}
pub use Rattle.tlsf_post.specs.Rounds.{IsFreshAt, IsOfPass, run, next_but, CameBack}
pub use Rattle.tlsf_post.specs.Rule.{owner_view, plan_for, posts_of, MayPut, Shows, AreOfPosters, posts_but, HasTaken, IsIn, poster_view, Fits, HasPut, Kept, ShowsOwn, idle}
pub use Rattle.tlsf_post.specs.declared.plan.Plan.{Plan}
pub use Rattle.tlsf_post.specs.declared.post.Post.{Post}
pub use Rattle.tlsf_post.specs.declared.view.View.{View}
pub use mathlib.Core.List.{IsPrefix}
