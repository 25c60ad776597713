pub mod Facts
mod Making
