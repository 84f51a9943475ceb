pub mod offered
mod Serving
mod WithoutQueues
