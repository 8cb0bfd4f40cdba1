mod Making
mod Complete
