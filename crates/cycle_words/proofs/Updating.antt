pub mod LimitsNoted
