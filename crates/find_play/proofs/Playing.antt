-- One entry more of a history is played.
use Rattle.std.proofs.Common.{◌≡◌, ℕ, ◌+◌, List, [], ◌∷◌, ◌++◌, take, Some, sym, ap, subst, ◌∙◌}
use Rattle.std.specs.Prelude.{slice_get}
use Rattle.std.proofs.lemmas.List.{take_more}
use Rattle.std.proofs.lemmas.Option.{slice_get_within, get_or_from_slice_get}
use Rattle.shen_graph.specs.History.{Entry}
use Rattle.find_play.specs.Plays.{Programs, Scene, Plays, Then, IsPlay}
use Rattle.find_play.specs.Scenes.{IsNextEntry}

pub played_on : (programs : Programs) (returns notes : ℕ) (entries : List Entry) (index : ℕ) (entry : Entry) (scene next_scene : Scene) → slice_get entries index ≡ Some entry → IsPlay programs returns notes (take index entries) scene → IsNextEntry programs entry scene next_scene → IsPlay programs returns notes (take (index + 1) entries) next_scene
played_on programs returns notes entries index entry scene next_scene found play answers =
    let one_taken : take (index + 1) entries ≡ take index entries ++ entry ∷ [] = take_more entries index entry (slice_get_within entries index entry found) ∙ ap (λ (entry : Entry). take index entries ++ entry ∷ []) (get_or_from_slice_get entries index entry entry found) in
    record {
      begun = play.begun;
      begins = play.begins;
      plays =
          subst (λ (some_entries : List Entry). Plays programs play.begun some_entries next_scene) (sym one_taken)
          (Then (take index entries) entry answers.number scene next_scene play.plays answers.thread answers.was answers.steps);
    }
