-- The result of a race where no script takes posts: the schedule of the threads decides nothing.
pub mod Alone
pub mod QueueAlone
