-- What runs beside the threads, by the number that the word of the phase has.
use Rattle.std.specs.Prelude.{ℕ}

-- nothing: between two cycles
abbrev pub idle_phase : ℕ
idle_phase = 0

abbrev pub marking_phase : ℕ
marking_phase = 1

abbrev pub evacuation_phase : ℕ
evacuation_phase = 2

-- references are updated
abbrev pub updating_phase : ℕ
updating_phase = 3
