use Rattle.tlsf_post.proofs.Common.{◌≡◌, ◌+◌, ◌-◌, [], ◌++◌, map, All, vec_len, vec_capacity, owner_view, number_of, run, IsFreshAt, arc_value, view, IsPassOf}
use Rattle.tlsf_post.proofs.mailboxes.send_out.Given as goal

abbrev pub invariant-loop-number : goal.invariant-loop-number
invariant-loop-number l = record {
  pass : IsPassOf (arc_value l.queue) l.pass;
  table : l.pass.table_id ≡ l.fn.pass.table_id;
  view : view l.pass ≡ owner_view (view l.fn.pass).plan l.number [] [];
  posters : All (IsFreshAt l.fn.pass) l.posters.items;
  numbers : map number_of l.posters.items ≡ map number_of l.fn.posters.items ++ run l.from (l.number - l.from);
  len : vec_len l.posters ≡ vec_len l.fn.posters + (l.number - l.from);
  capacity : vec_capacity l.posters ≡ vec_capacity l.fn.posters;
}
