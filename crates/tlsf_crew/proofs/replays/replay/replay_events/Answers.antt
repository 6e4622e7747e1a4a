use Rattle.tlsf_crew.proofs.Common.{world_of}
use Rattle.tlsf_crew.proofs.lemmas.model.InParts.{replies_alone}
use Rattle.tlsf_crew.proofs.replays.replay.replay_events.Goals as goal

pub returns-clause-entries : goal.returns-clause-entries
returns-clause-entries g c = rw (c.new-made.ensures.items, replies_alone (world_of c.args.workers.now) c.args.events.now) at c.replay_behind.ensures.entries

pub returns-clause-world : goal.returns-clause-world
returns-clause-world g c = rw (c.new-made.ensures.items, replies_alone (world_of c.args.workers.now) c.args.events.now) at c.replay_behind.ensures.world
