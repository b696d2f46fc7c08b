mod Handed
mod Verdicts
