pub mod RunningDigests
