-- A shape word reads as the numbers that it was made of.
use Rattle.std.proofs.Common.{◌≡◌, ℕ, ◌≤◌, arith}
use Rattle.heap_words.specs.Encoding.{shape_word, refs_in, nums_in}

pub refs_in-shape_word : (refs nums : ℕ) → refs ≤ 16 → nums ≤ 16 → refs_in (shape_word refs nums) ≡ refs
refs_in-shape_word refs nums few_refs few_nums = omega arith

pub nums_in-shape_word : (refs nums : ℕ) → refs ≤ 16 → nums ≤ 16 → nums_in (shape_word refs nums) ≡ nums
nums_in-shape_word refs nums few_refs few_nums = omega arith
