-- Lists of entries: the events that made them, the calls on each heap, and the posts of each lane.
pub mod History
pub mod QueueHistory
