use Rattle.tlsf_crew.proofs.lanes.lane_worker.LanesPorts.has_source.Goals as goal

pub returns-clause-yes : goal.returns-clause-yes
returns-clause-yes c = rw (← c.deref.ensures.value) c.has_end.ensures.yes

pub returns-clause-no : goal.returns-clause-no
returns-clause-no c = rw (← c.deref.ensures.value) c.has_end.ensures.no
