-- What a handle and the parts of a seat's box are to the machine: one word of their fields.
--     seat_box           a box of a seat from the global allocator, as std's lemmas on boxes see it
--     Parted, Handled    the parts of a seat's box, and a handle, as parameters
--     triple             a handle's word: its pointer, whether it is open, its allocator
--     handle_out         a handle by value is what it holds and its allocator.        handle_in     the way back
use Rattle.std.proofs.Common.{◌≡◌, List, [], ◌∷◌, ◌++◌, Option, Some, None, refl, subst}
use mathlib.Core.Bool.{Bool, true, false, ◌&&◌, not}
use lib.Dec.{T, lit<}
use seplogic.Ra.Ura.{Ura}
use mir.Syntax.{impl, tnil, dnil, ty_ptr}
use mir.Val.{Val, vbool, vstruct, vcons, vnil, of_list, has_ty, WT}
use types.Logic.{Logic}
use types.Kit.{Item, Goal, Seq, Step, step, ‵, ◌$◌, move, drop, fsplit, fjoin, fpick, fpack, feq_i, feq_l}
use denote.RattleType.{RattleType, Valss}
use denote.Builtin.{RawPtr, bool}
use denote.RawPtr.{Ptr, block_ptr, null_ptr, ptr_val}
use denote.Signature.{Slot, plain}
use denote.Steps.{nothing}
use denote.Struct.Struct.{within}
use denote.Struct.Owning.{shape, to}
use Rattle.std.proofs.alloc.Calls.{α, Fits, handle_tells}
use Rattle.std.proofs.ResultValues.{and_tt}
use Rattle.std.proofs.BoxSteps.Form.{Bx}
use Rattle.std.specs.contracts.alloc.Global as heap
use Rattle.std.specs.contracts.impls.GlobalAllocator.TheImpl.{ghosts, dict}
use Rattle.std.proofs.alloc.Global.TheLaws as heap_laws
use Rattle.heap_seats.specs.contracts.seat.Seat as seat
use Rattle.heap_seats.proofs.seat.Seat.TheLaws as seat_laws
use Rattle.std.specs.Option.{is_some}
use Rattle.std.specs.Box.Ownership.{box_owns}
use Rattle.covremuj.specs.HeldSeats.{held_owns}
use Rattle.covremuj.specs.contracts.parts.Parts as parts
use Rattle.covremuj.specs.contracts.handle.Handle as handle

abbrev pub seat_box : Bx
seat_box = record { row = seat.the_row; laws = seat_laws.the_row_laws; al = record { row = heap.the_row; laws = heap_laws.the_row_laws; g = ghosts; d = dict; drops = impl [] tnil dnil } }

abbrev pub Parted : Slot 0
Parted = plain (λ _. parts.the_row seat.the_row heap.the_row ghosts)

abbrev pub Handled : Slot 0
Handled = plain (λ _. handle.the_row)

abbrev pub triple : Val → Val → Val → Val
triple pointer flag heap_value = vstruct (vcons pointer (vcons flag (vcons heap_value vnil)))

pub ptr_typed : (pointer : Ptr) → T (has_ty ty_ptr (ptr_val pointer)) × WT (ptr_val pointer)
ptr_typed (block_ptr block offset) = (tt, tt)
ptr_typed null_ptr = (tt, record { fits = lit< tt })

pub triple_typed : (pointer : Ptr) (holds : Bool) (heap_value : Val) → Fits seat_box.al heap_value → T (has_ty ty_ptr (ptr_val pointer) && (has_ty (α seat_box.al) heap_value && true)) × WT (triple (ptr_val pointer) (vbool holds) heap_value)
triple_typed (block_ptr block offset) holds heap_value fits = (and_tt (has_ty (α seat_box.al) heap_value) fits.0, (tt, (tt, (fits.1, tt))))
triple_typed null_ptr holds heap_value fits = (and_tt (has_ty (α seat_box.al) heap_value) fits.0, (record { fits = lit< tt }, (tt, (fits.1, tt))))

-- the parts of a seat's box
abbrev pub pair : Val → Val → Val
pair pointer heap_value = vstruct (vcons pointer (vcons heap_value vnil))

abbrev pub SeatParts : RattleType
SeatParts = parts.the_row seat.the_row heap.the_row ghosts

pub pair_typed : (pointer : Ptr) (heap_value : Val) → Fits seat_box.al heap_value → T (has_ty ty_ptr (ptr_val pointer) && (has_ty (α seat_box.al) heap_value && true)) × WT (pair (ptr_val pointer) heap_value)
pair_typed (block_ptr block offset) heap_value fits = (and_tt (has_ty (α seat_box.al) heap_value) fits.0, (tt, (fits.1, tt)))
pair_typed null_ptr heap_value fits = (and_tt (has_ty (α seat_box.al) heap_value) fits.0, (record { fits = lit< tt }, (fits.1, tt)))

-- what an open handle holds
pub held_is : {X : Type 0} (found : Option X) (holds : Bool) → holds ≡ is_some found → T holds → (value : X) × (found ≡ Some value)
held_is None false told_by holds_so = absurd holds_so
held_is None true told_by holds_so = absurd cc
held_is (Some value) holds told_by holds_so = (value, refl)

-- what an empty one does
pub none_is : {X : Type 0} (found : Option X) (holds : Bool) → holds ≡ is_some found → T (not holds) → found ≡ None
none_is None holds told_by empty = refl
none_is (Some value) true told_by empty = absurd empty
none_is (Some value) false told_by empty = absurd cc

module _ {M : Type 1} {𝓤 : Ura M} {𝓛 : Logic 𝓤} {K : Type 0} {Γ : List (Item 𝓤)} {G : Goal 𝓤 𝓛.H} where
  -- a handle by value
  pub handle_out : K → (handle_shown : handle.the_row.Denot) (values : List Val)
      → ((heap_value : Val) → values ≡ triple (ptr_val handle_shown.at) (vbool handle_shown.is_open) heap_value ∷ [] → Fits seat_box.al heap_value → Seq K 𝓛 (‵ (held_owns handle_shown.at handle_shown.alloc handle_shown.held) ∷ ‵ (heap.the_row.own_val handle_shown.alloc (heap_value ∷ [])) ∷ Γ) G)
      → Seq K 𝓛 (‵ (handle.the_row.own_val handle_shown values) ∷ Γ) G
  handle_out t handle_shown values go_on =
      fsplit t $ fpick t (λ vss. fsplit t $ feq_l t (λ values_equal. fsplit t $ feq_l t (λ pointer_equal. fsplit t $ feq_l t (λ flag_equal. fsplit t $ handle_tells seat_box.al t handle_shown.alloc vss.1.1.0 (λ heap_value heap_equal fits. move t (1 ∷ []) $ drop t $ move t (1 ∷ []) $
      go_on heap_value
      (subst (λ (heap_values : List Val). values ≡ vstruct (of_list (ptr_val handle_shown.at ∷ vbool handle_shown.is_open ∷ (heap_values ++ []))) ∷ []) heap_equal
      (subst (λ (flag_values : List Val). values ≡ vstruct (of_list (ptr_val handle_shown.at ∷ (flag_values ++ (vss.1.1.0 ++ [])))) ∷ []) flag_equal
      (subst (λ (pointer_values : List Val). values ≡ vstruct (of_list (pointer_values ++ (vss.1.0 ++ (vss.1.1.0 ++ [])))) ∷ []) pointer_equal values_equal))) fits)))))

  -- and put together
  pub handle_in : K → (handle_shown : handle.the_row.Denot) (heap_value : Val)
      → Step K 𝓛 (‵ (handle.the_row.own_val handle_shown (triple (ptr_val handle_shown.at) (vbool handle_shown.is_open) heap_value ∷ [])) ∷ Γ) G (‵ (held_owns handle_shown.at handle_shown.alloc handle_shown.held) ∷ ‵ (heap.the_row.own_val handle_shown.alloc (heap_value ∷ [])) ∷ Γ) G
  handle_in t handle_shown heap_value = step (λ go_on. let whole_value : Val = triple (ptr_val handle_shown.at) (vbool handle_shown.is_open) heap_value in
      nothing t $ move t (2 ∷ 0 ∷ []) $ fjoin t $ feq_i t (List Val) (vbool handle_shown.is_open ∷ []) (vbool handle_shown.is_open ∷ []) refl $ fjoin t $ feq_i t (List Val) (ptr_val handle_shown.at ∷ []) (ptr_val handle_shown.at ∷ []) refl $ fjoin t $
      feq_i t (List Val) (whole_value ∷ []) (whole_value ∷ []) refl $ fjoin t $
      fpack t (Valss (RawPtr ∷ bool ∷ heap.the_row ∷ [])) (within (shape handle.the_type) (to handle.the_type handle_shown) (whole_value ∷ [])) (ptr_val handle_shown.at ∷ [], (vbool handle_shown.is_open ∷ [], (heap_value ∷ [], tt))) $ fjoin t $ go_on)

  -- the parts of a box
  pub parts_in : K → (parts_shown : SeatParts.Denot) (heap_value : Val)
      → Step K 𝓛 (‵ (SeatParts.own_val parts_shown (pair (ptr_val parts_shown.address) heap_value ∷ [])) ∷ Γ) G (‵ (box_owns (ghosts.dealloc_token parts_shown.allocator) seat.the_row parts_shown.address parts_shown.inside) ∷ ‵ (heap.the_row.own_val parts_shown.allocator (heap_value ∷ [])) ∷ Γ) G
  parts_in t parts_shown heap_value = step (λ go_on. let whole_value : Val = pair (ptr_val parts_shown.address) heap_value in
      nothing t $ move t (2 ∷ 0 ∷ []) $ fjoin t $ feq_i t (List Val) (ptr_val parts_shown.address ∷ []) (ptr_val parts_shown.address ∷ []) refl $ fjoin t $ feq_i t (List Val) (whole_value ∷ []) (whole_value ∷ []) refl $ fjoin t $
      fpack t (Valss (RawPtr ∷ heap.the_row ∷ [])) (within (shape (parts.the_type seat.the_row heap.the_row ghosts)) (to (parts.the_type seat.the_row heap.the_row ghosts) parts_shown) (whole_value ∷ [])) (ptr_val parts_shown.address ∷ [], (heap_value ∷ [], tt)) $ fjoin t $ go_on)
