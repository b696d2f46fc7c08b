-- Settling buffers and letting them go keep what words represent.
use Rattle.std.specs.Prelude.{ℕ, ◌≡◌, ◌≤◌}
use Rattle.heap_words.specs.declared.config.Config.{Config}
use Rattle.heap_words.specs.Ranges.{seat_count}
use Rattle.heap_words.specs.Words.{Word, Current}
use Rattle.shen_graph.specs.Graph.{Graph}
use Rattle.heap_world.specs.World.{HasNoRoom}
use Rattle.heap_world.specs.Asking.{Asking}
use Rattle.heap_world.specs.Represents.{Represents, RepresentsByCopies}
use Rattle.image_graph.specs.Settled.{buffers_settled, AreLast}
use Rattle.image_graph.specs.LetGo.{let_go, HasNoBuffers}
use Rattle.image_graph.specs.Divided.{AreDivided}

-- What words represent they represent after buffers were settled, ..
pub record SettlingKeeps (config : Config) (memory : Word → ℕ) (graph : Graph) (asking : ℕ → Asking) : Type 0 where
  pub represents : Represents config memory graph asking → Represents config (buffers_settled config memory) graph asking
  pub by_copies : RepresentsByCopies config memory graph asking → RepresentsByCopies config (buffers_settled config memory) graph asking

-- .. and after they were let go, where there are no words of buffers but the seats'.
pub record LettingGoKeeps (config : Config) (memory : Word → ℕ) (graph : Graph) (asking : ℕ → Asking) : Type 0 where
  pub represents : Represents config memory graph asking → Represents config (let_go config memory) graph asking
  pub by_copies : RepresentsByCopies config memory graph asking → RepresentsByCopies config (let_go config memory) graph asking

abbrev pub HasNoOtherBuffers : Config → (Word → ℕ) → Type 0
HasNoOtherBuffers config memory = (seat : ℕ) → seat_count config.mutators config.helpers ≤ seat → memory (Current seat) ≡ 0

-- Where each buffer is the last of its region, edges divide the pieces, ..
abbrev pub LastDivide : Type 0
LastDivide = (config : Config) (memory : Word → ℕ) (graph : Graph) (asking : ℕ → Asking) (represented : RepresentsByCopies config memory graph asking) → AreLast config memory → AreDivided config memory represented.block

-- .. and where nobody has a buffer, no piece is room.
abbrev pub NoneHaveRoom : Type 0
NoneHaveRoom = (config : Config) (memory : Word → ℕ) (graph : Graph) (asking : ℕ → Asking) (represented : RepresentsByCopies config memory graph asking) → HasNoBuffers config memory → HasNoRoom represented.block
