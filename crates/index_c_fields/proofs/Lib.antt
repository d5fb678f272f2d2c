-- `Tellings`: what the loop of `put_contents` keeps.
mod Tellings
