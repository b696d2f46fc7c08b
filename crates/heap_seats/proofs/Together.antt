-- Seats that are gathered: one more, and what follows once all of a heap are there.
use Rattle.std.proofs.Common.{◌≡◌, ◌⊎◌, ◌<◌, ℕ, List, [], ◌∷◌, ◌++◌, length, Some, refl, sym, ap, ◌∙◌, subst, arith}
use Rattle.std.specs.Prelude.{slice_get}
use Rattle.shen_graph.proofs.Lists.{element_before, last_element}
use Rattle.heap_words.proofs.Lists.{index_in_range}
use Rattle.heap_words.specs.declared.config.Config.{Config}
use Rattle.heap_words.specs.Ranges.{seat_count}
use Rattle.heap_machines.specs.Shown.{shown}
use Rattle.shared_table.specs.Views.{machines_of, whole, merged}
use Rattle.shared_table.proofs.Dealing.{length-merged}
use Rattle.shared_table.proofs.Kept.{length-kept}
use Rattle.shared_table.proofs.Numbers.{all_here}
use Rattle.step_core.specs.Settled.{control_number}
use Rattle.table_heap.specs.declared.heap.Heap.{Heap}
use Rattle.table_heap.specs.Core.{machine_in}
use Rattle.table_heap.specs.State.{view_of as bundle_view, start_of_heap}
use Rattle.table_heap.specs.Gathered.{view_of, HasAllOf, StandInRun}
use Rattle.heap_seats.specs.declared.seat.Seat.{Seat}
use Rattle.heap_seats.specs.declared.gathering.Begun.{Begun}
use Rattle.heap_seats.specs.Seats.{config_of, number_of, heap_shared}
use Rattle.heap_seats.specs.GivenUp.{AreAllSeats, AreOver, HaveNot}
use Rattle.heap_seats.specs.Gathered.{heap_begun, sizes_begun, AreTogether, AreBegun, AreNumbered, MakeUpHeap, HaveHistory}
use Rattle.heap_seats.proofs.Joined.{each_here, history_there, machines_more}

-- a seat's sizes are those of its heap
config_of_heap : (seat : Seat) → config_of seat ≡ (heap_shared seat).config
config_of_heap seat = sym seat.same_config ∙ seat.fits.config

-- its view has a place for each number
pub places : (seat : Seat) → length (bundle_view seat.bundle) ≡ seat_count (heap_shared seat).config.mutators (heap_shared seat).config.helpers
places seat =
    let bundle = seat.bundle in
    sym (length-kept machine_in (bundle_view bundle)) ∙ ap length bundle.kept ∙ length-kept shown bundle.machines.items ∙ bundle.seats ∙ ap (λ (config : Config). seat_count config.mutators config.helpers) seat.fits.config

-- ---- one more

pub together_more : (before : List Seat) (seat : Seat) (old new : Begun) → heap_begun new ≡ heap_begun old → AreTogether before old → heap_shared seat ≡ heap_begun old → HaveNot before seat.number
    → view_of new.machines ≡ merged (view_of old.machines) (bundle_view seat.bundle) → AreTogether (before ++ seat ∷ []) new
together_more before seat old new same_begun together shares_begun absent view = record {
  machines = machines_more before seat (view_of old.machines) (view_of new.machines) together.machines absent view;
  long =
      ap length view ∙ length-merged (view_of old.machines) (bundle_view seat.bundle) (together.long ∙ sym (places seat ∙ ap (λ (heap : Heap). seat_count heap.config.mutators heap.config.helpers) shares_begun))
      ∙ together.long ∙ ap (λ (heap : Heap). seat_count heap.config.mutators heap.config.helpers) (sym same_begun);
}

first_of : {A : Type 0} (xs : List A) (y x : A) → slice_get xs 0 ≡ Some x → slice_get (xs ++ y ∷ []) 0 ≡ Some x
first_of xs y x first_there = element_before xs (y ∷ []) 0 x first_there

module _ (before : List Seat) (seat : Seat) (old new : Begun) (seats_begun : AreBegun before old) (same_begun : heap_begun new ≡ heap_begun old)
    (together_then : AreTogether before old → heap_shared seat ≡ heap_begun old → HaveNot before seat.number → AreTogether (before ++ seat ∷ []) new) where
  last : slice_get (before ++ seat ∷ []) (length before) ≡ Some seat
  last = last_element before seat

  no_other : AreNumbered (before ++ seat ∷ []) → HaveNot before seat.number
  no_other numbered index other_seat seat_there same_number =
      let own_number : number_of seat ≡ length before = numbered (length before) seat last in
      let other_number : number_of other_seat ≡ index = numbered index other_seat (element_before before (seat ∷ []) index other_seat seat_there) in
      let index_below = index_in_range before index other_seat seat_there in
      absurd (omega (arith, own_number, other_number, index_below, same_number))

  pub begun_more : AreBegun (before ++ seat ∷ []) new
  begun_more = record {
    first = seats_begun.first;
    there = first_of before seat seats_begun.first seats_begun.there;
    heap = seats_begun.heap ∙ sym same_begun;
    together = λ one_heap numbered.
        let init : (index : ℕ) (other_seat : Seat) → slice_get before index ≡ Some other_seat → slice_get (before ++ seat ∷ []) index ≡ Some other_seat = λ index other_seat seat_there. element_before before (seat ∷ []) index other_seat seat_there in
        together_then (seats_begun.together (λ index second_index other_seat second_seat first_there second_there. one_heap index second_index other_seat second_seat (init index other_seat first_there) (init second_index second_seat second_there)) (λ index other_seat first_there. numbered index other_seat (init index other_seat first_there)))
        (one_heap (length before) 0 seat seats_begun.first last (init 0 seats_begun.first seats_begun.there) ∙ seats_begun.heap) (no_other numbered);
  }

pub begun_one : (seat : Seat) (begun : Begun) → heap_begun begun ≡ heap_shared seat → AreTogether (seat ∷ []) begun → AreBegun (seat ∷ []) begun
begun_one seat begun heap together = record { first = seat; there = refl; heap = sym heap; together = λ one_heap numbered. together }

-- ---- all of them

module _ (begun : Begun) (seats : List Seat) (together : AreTogether seats begun) (all_seats_are : AreAllSeats (sizes_begun begun) (heap_begun begun) seats) where
  pub all_gathered : HasAllOf (sizes_begun begun) begun.machines
  all_gathered = record { long = together.long; each = each_here (sizes_begun begun) (heap_begun begun) seats (view_of begun.machines) all_seats_are together.machines }

  pub one_history : AreOver (sizes_begun begun) seats → StandInRun (heap_begun begun) begun.machines → HaveHistory seats
  one_history are_over run =
      let view = view_of begun.machines in
      let is_whole : view ≡ whole (machines_of view) = all_here view (λ index index_below. all_gathered.each index (let view_long = together.long in omega (arith, index_below, view_long))) in
      let history_found = history_there (sizes_begun begun) (heap_begun begun) seats view all_seats_are together.machines (record { words = run.words; machines = machines_of view }) is_whole are_over run.reached in
      record {
        sizes = sizes_begun begun;
        start = start_of_heap (heap_begun begun);
        config = all_seats_are.config;
        begun = λ address seat seat_there. ap (λ (heap : Heap). start_of_heap heap) (all_seats_are.heap address seat seat_there);
        events = history_found.0;
        history = history_found.2;
      }

-- seats that make up a heap are all seats of it
module _ (heap : Heap) (seats : List Seat) (first_seat : Seat) (first_there : slice_get seats 0 ≡ Some first_seat) (of_heap : heap_shared first_seat ≡ heap) (make_up : MakeUpHeap seats) where
  heaps : (index : ℕ) (seat : Seat) → slice_get seats index ≡ Some seat → heap_shared seat ≡ heap
  heaps index seat seat_there = make_up.heap index 0 seat first_seat seat_there first_there ∙ of_heap

  sizes : (index : ℕ) (seat : Seat) → slice_get seats index ≡ Some seat → config_of seat ≡ heap.config
  sizes index seat seat_there = config_of_heap seat ∙ ap (λ (heap : Heap). heap.config) (heaps index seat seat_there)

  pub all_seats : AreAllSeats heap.config heap seats
  all_seats = record {
    count = sym (make_up.count 0 first_seat first_there) ∙ ap (λ (config : Config). seat_count config.mutators config.helpers) (sizes 0 first_seat first_there);
    config = sizes;
    heap = heaps;
    number = make_up.number;
  }

  pub all_over : AreOver heap.config seats
  all_over index seat seat_there role = make_up.over index seat seat_there (subst (λ (config : Config). (index < config.mutators) ⊎ (index ≡ control_number config)) (sym (sizes index seat seat_there)) role)
