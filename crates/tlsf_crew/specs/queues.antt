-- A yard over queues, one for each owner, into which all others post: its workers, its opening, settling and draining.
pub mod QueueCalls
pub mod QueueNotes
pub mod QueueOpening
pub mod QueueSettle
pub mod QueueWorkers
pub mod QueueYard
