-- A reference of an object becomes one to the current copy of the object that it names: the graph stays as it is.
use Rattle.heap_words.specs.Phases.{updating_phase}
use Rattle.std.proofs.Common.{◌≡◌, ℕ, ◌+◌, ◌<◌, List, [], ◌∷◌, true, false, Option, Some, None, length, zero, suc, ⊎_elim, refl, sym, ap, ◌∙◌, subst, arith}
use Rattle.std.specs.Prelude.{slice_get, slice_set}
use Rattle.std.proofs.Math.ListN.{get_or}
use Rattle.std.proofs.Math.Path.{fun_ext}
use Rattle.std.proofs.lemmas.Bool.{cases_Bool, cond-true, cond-false}
use Rattle.std.proofs.lemmas.Option.{slice_get-get_or, none-some}
use Rattle.heap_words.specs.declared.config.Config.{Config}
use Rattle.heap_words.specs.Words.{Phase, Top, Heap}
use Rattle.shen_graph.specs.declared.name.Name.{Name}
use Rattle.shen_graph.specs.Graph.{Reference, Object, Graph, same_name}
use Rattle.shen_graph.proofs.PlainLemmas.{same_name-true}
use Rattle.heap_world.specs.World.{World, thing, moved, name_at, Points, IsThing, TargetIn, IsCurrent, IsCovered, Shared}
use Rattle.heap_world.specs.Rely.{Rely}
use Rattle.heap_world.proofs.Pointing.{piece_inside}
use Rattle.heap_world.proofs.FunctionUpdates.{updated}
use Rattle.heap_world.proofs.Objects.{stored, changed, field_stored, shared_stored, rely_stored}

-- a list in which an element is set that was there is the same
set_same : {A : Type 0} (xs : List A) (index : ℕ) (x : A) → slice_get xs index ≡ Some x → slice_set xs index x ≡ xs
set_same [] index x element_there = refl
set_same (y ∷ ys) zero x element_there = cc
set_same (y ∷ ys) (suc index) x element_there = ap (λ zs. y ∷ zs) (set_same ys index x element_there)

-- the graph is the same where an object is put that is there
same_graph : (graph : Graph) (name : Name) (object : Object) → graph.object name ≡ Some object → changed graph name object graph.root ≡ graph
same_graph graph name put_object object_there = ap (λ (object : Name → Option Object). record { object = object; root = graph.root; count = graph.count; pin = graph.pin }) (fun_ext (λ other_name. ⊎_elim
    (λ (name_met : same_name other_name name ≡ true). cond-true (same_name other_name name) (Some put_object) (graph.object other_name) name_met ∙ sym object_there ∙ ap graph.object (sym (same_name-true other_name name name_met)))
    (λ (name_differs : same_name other_name name ≡ false). cond-false (same_name other_name name) (Some put_object) (graph.object other_name) name_differs)
    (cases_Bool (same_name other_name name))))

module _ (config : Config) (world : World) (shared : Shared config world) (phase_three : world.memory Phase ≡ updating_phase) where
  -- the current copy of an object stands for what an old copy stands for
  points_copy : (found refs nums copy : ℕ) (name : Name) (reference : Reference) → world.block found ≡ Some (moved name refs nums copy) → Points world.block found reference → Points world.block copy reference
  points_copy found refs nums copy name None old points =
      let ends_inside = piece_inside config (λ reference. world.memory (Top reference)) world.block shared.parsable.plotted found (moved name refs nums copy) old in
      let some_words = config.in_range.least_words in
      absurd (omega (arith, points, ends_inside.0, some_words))
  points_copy found refs nums copy name (Some named) old points = ap name_at (shared.evacuated.moved.moveds found refs nums copy name old).copy ∙ sym (ap name_at old) ∙ points

  module _ (address refs nums field found old_refs old_nums copy : ℕ) (name copied_name : Name) (object_there : world.block address ≡ Some (thing name refs nums)) (field_below : field < refs)
      (field_before : world.memory (Heap (address + 3 + field)) ≡ found) (old : world.block found ≡ Some (moved copied_name old_refs old_nums copy)) where
    -- the world in which the reference is to the current copy
    abbrev pub renewed_world : World
    renewed_world = stored world (address + 3 + field) copy world.graph

    -- the object, which lies outside of the collection set, may be used
    target : TargetIn config world address refs nums name
    target = record { piece = object_there; safe = λ inside. absurd ((shared.updated phase_three).outside address refs nums name object_there inside) }

    -- the words are the same object then
    same_thing : IsThing (updated (λ address. world.memory (Heap address)) (address + 3 + field) copy) world.block address refs nums name (shared.contents.objects.each address refs nums name object_there).0
    same_thing =
        let of_graph = shared.contents.objects.each address refs nums name object_there in
        let held_object = of_graph.0 in
        let object_told = of_graph.2 in
        let field_within : field < length held_object.refs = (let refs_are = object_told.refs_are in omega (arith, field_below, refs_are)) in
        let reference : Reference = get_or held_object.refs field None in
        let reference_there : slice_get held_object.refs field ≡ Some reference = slice_get-get_or held_object.refs field None field_within in
        let points : Points world.block found reference = subst (λ word. Points world.block word reference) field_before (object_told.references field reference reference_there) in
        subst (λ refs_then. IsThing (updated (λ address. world.memory (Heap address)) (address + 3 + field) copy) world.block address refs nums name (record { refs = refs_then; nums = held_object.nums })) (set_same held_object.refs field reference reference_there)
        (field_stored (λ address. world.memory (Heap address)) world.block address refs nums name held_object object_told field copy reference field_below (points_copy found old_refs old_nums copy copied_name reference old points))

    -- nobody marks
    nothing_covered : (index : ℕ) → index < refs → address + 3 + field ≡ address + 3 + index → IsCovered config world address index
    nothing_covered index index_inside same_field other_refs other_nums name piece_there under =
        absurd (none-some _ (sym (ap (λ some_graph. some_graph.block address) (shared.marked.empty (λ phase_one. omega (arith, phase_three, phase_one)))) ∙ piece_there))

    -- the current copy is current
    copy_current : (index : ℕ) → index < refs → address + 3 + field ≡ address + 3 + index → IsCurrent world.block copy
    copy_current index index_inside same_field = IsCurrent.names old_refs old_nums copied_name (shared.evacuated.moved.moveds found old_refs old_nums copy copied_name old).copy

    -- machines share what they should
    pub shared_renewed : Shared config renewed_world
    shared_renewed =
        let of_graph = shared.contents.objects.each address refs nums name object_there in
        subst (λ some_graph. Shared config (stored world (address + 3 + field) copy some_graph)) (same_graph world.graph name of_graph.0 of_graph.1)
        (shared_stored config world address refs nums (address + 3 + field) copy name of_graph.0 world.graph.root shared target (omega arith) (omega (arith, field_below)) nothing_covered copy_current same_thing)

    -- and each can rely on what it knew
    pub rely_renewed : (seat : ℕ) → Rely config seat world renewed_world
    rely_renewed seat =
        let of_graph = shared.contents.objects.each address refs nums name object_there in
        subst (λ some_graph. Rely config seat world (stored world (address + 3 + field) copy some_graph)) (same_graph world.graph name of_graph.0 of_graph.1)
        (rely_stored config world address refs nums (address + 3 + field) copy name of_graph.0 world.graph.root shared target (omega arith) (omega (arith, field_below)) copy_current seat (λ index. refl))
