mod Blocks
mod Ends
