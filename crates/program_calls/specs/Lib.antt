pub mod Noted
pub mod NoteTellings
pub mod Listed
pub mod FaultLines
pub mod FindTellings
pub mod ExitNumbers
