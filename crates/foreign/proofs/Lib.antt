mod Granting
mod Performing
mod Running
