-- Lemmas on lists.
use Rattle.std.proofs.Common.{◌≡◌, ℕ, ◌≤◌, List, ◌++◌, length, take, drop, arith, ◌∙◌, ap, subst, length-take}
use Rattle.std.proofs.Math.Seq.{take-append_seam}
use Rattle.std.proofs.lemmas.List.{take-append-drop}

-- the front of a list that was put before another one
pub take_front : (count : ℕ) (front behind : List ℕ) → length front ≡ count → take count (front ++ behind) ≡ front
take_front count front behind fits = subst (λ size. take size (front ++ behind) ≡ front) fits (take-append_seam front behind)

-- a buffer that begins with the front of a list, and the rest of the list, have the list between them
pub put_and_rest : (count : ℕ) (xs behind buffer rest : List ℕ) → count ≤ length xs → buffer ≡ take count xs ++ behind → rest ≡ drop count xs → xs ≡ take count buffer ++ rest
put_and_rest count xs behind buffer rest fits put rest_left =
    let front_length : length (take count xs) ≡ count = omega (arith, length-take count xs) in
    let front : take count buffer ≡ take count xs = ap (take count) put ∙ take_front count (take count xs) behind front_length in
    rw (front, rest_left, take-append-drop)
