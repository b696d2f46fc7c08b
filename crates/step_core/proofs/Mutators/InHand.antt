-- A reference that was found in a field, while it is in hand for a root.
use Rattle.std.proofs.Common.{◌≡◌, ℕ, ◌+◌, ◌<◌, ⊎_elim, true, false, Some, None, refl, ap, arith}
use Rattle.std.specs.Prelude.{◌==◌, if◌then◌else◌}
use Rattle.std.proofs.lemmas.Bool.{cases_Bool, eqb-true, eqb-false}
use Rattle.std.proofs.lemmas.Bool.Decides.{nat_tests}
use Rattle.heap_words.specs.declared.config.Config.{Config}
use Rattle.heap_words.specs.Words.{Root, is_word}
use Rattle.heap_words.specs.Fits.{is_number}
use Rattle.shen_graph.specs.declared.command.Command.{Command}
use Rattle.shen_graph.specs.Graph.{Reference}
use Rattle.shen_graph.specs.Step.{shown}
use Rattle.shen_graph.specs.History.{is_full}
use Rattle.mutator.specs.Rows.{after_field}
use Rattle.mutator.specs.Commands.{dst_of}
use Rattle.heap_world.specs.World.{World, body_of, Points, UsableIn, Shared}
use Rattle.step_core.proofs.Machines.Stepped.{IsSeatedIn, HasMarkingBy, HasCopyingBy, Mine}
use Rattle.step_core.proofs.Mutators.Spots.{mutator_at}
use Rattle.heap_world.proofs.Pointing.{named_body, body_piece, piece_word, points_small, null_if_0, named_if_not_0}
use Rattle.step_core.proofs.Machines.Ready.{ready_of, number_small}
use Rattle.mutator.specs.declared.spot.Kept.{Kept}
use Rattle.alloc_buffers.specs.Facts.{OnlySpares}

-- a reply that shows a reference is not full
pub shown_not_full : (reference : Reference) → is_full (shown reference) ≡ false
shown_not_full None = refl
shown_not_full (Some name) = refl

-- With the reference of a field in hand for a root, and settled, a call goes on: it stores null, or loads the name first.
pub field_mine : (config : Config) (world : World) (seat made : ℕ) (kept : Kept) (command : Command) (got : ℕ) (reference : Reference)
    → Shared config world → IsSeatedIn config world seat made false → HasMarkingBy world seat None kept.phase true → HasCopyingBy world seat false kept.cset true → dst_of kept.command < 16
    → ((index : ℕ) → index < 16 → Points world.block (if index == dst_of kept.command then got else world.memory (Root seat index)) (world.graph.root (seat + 1) index))
    → OnlySpares world seat
    → Points world.block got reference → UsableIn config world got
    → Mine config world (mutator_at seat made kept (after_field got)) command (Some (shown reference))
field_mine config world seat made kept command got reference shared seated marking copying root_small roots rooms points_there usable = ⊎_elim
    (λ (is_null : (got == 0) ≡ true).
    let seat_below = seated.below in
    let zero_got : got ≡ 0 = eqb-true _ _ is_null in
    rw is_null (record {
      seated = seated;
      ready = ready_of (is_word config (Root seat (dst_of kept.command))) (is_number got) (grind (arith, nat_tests)) (number_small got (points_small config _ world.block shared.parsable.plotted got reference points_there));
      marking = marking;
      copying = copying;
      roots = roots;
      rooms = rooms;
      facts = (ap (λ any_reference. Some (shown any_reference)) (null_if_0 config _ world.block shared.parsable.plotted got reference points_there zero_got), root_small, usable);
    }))
    (λ (not_null : (got == 0) ≡ false).
    let named = named_if_not_0 config _ world.block shared.parsable.plotted got reference points_there (eqb-false _ _ not_null) in
    let body = named_body (world.block got) named.0 named.2 in
    let piece_there = body_piece (world.block got) (body_of named.0 body.0 body.1) body.2 in
    rw not_null (record {
      seated = seated;
      ready = ready_of _ true (piece_word config _ world.block shared.parsable.plotted got 2 piece_there.0 piece_there.1 (let piece_long = piece_there.2 in omega (arith, piece_long))) refl;
      marking = marking;
      copying = copying;
      roots = roots;
      rooms = rooms;
      facts = (record { name = named.0; settled = ap (λ any_reference. Some (shown any_reference)) named.1; is = named.2; small = root_small }, usable);
    }))
    (cases_Bool (got == 0))
