-- Seats of a heap that goes on with the graph of another: under new names, or from its own words.
use Rattle.std.proofs.Common.{◌≡◌, ℕ, List, Option, Some, None, refl, sym, ap, ◌∙◌, subst}
use Rattle.std.specs.Prelude.{Result, Ok, Err, IfOk, IfSome}
use Rattle.std.proofs.Math.Logic.{∥∥₁_map}
use Rattle.heap_words.specs.declared.config.Config.{Config}
use Rattle.heap_words.specs.Words.{Word, End, view}
use Rattle.shen_graph.specs.Graph.{Graph}
use Rattle.shen_graph.specs.GraphText.{Text, names_of}
use Rattle.heap_world.specs.Asking.{nothing}
use Rattle.heap_world.specs.Represents.{Represents}
use Rattle.heap_world.specs.Shows.{ShowsGraph}
use Rattle.heap_words.specs.Steps.{Stage}
use Rattle.image_graph.specs.declared.image.Image.{Image}
use Rattle.image_graph.specs.State as images
use Rattle.heap_machines.specs.FromImage.{CanBeginFrom, stage_from}
use Rattle.heap_machines.specs.Pause.{pause_image}
use Rattle.heap_machines.proofs.FromImages.{begins_from, stage_words}
use Rattle.step_core.specs.Actor.{Actor}
use Rattle.step_core.specs.AtRest.{IsAtRest}
use Rattle.step_core.specs.Begins.{Run, Begins, ending, graph_after}
use Rattle.graph_placing.specs.PlaceableText.{IsPlaceable}
use Rattle.graph_placing.specs.PlacedHeap.{IsPlaced}
use Rattle.graph_placing.specs.TextGraph.{text_graph}
use Rattle.graph_placing.specs.NamesAnew.{name_anew, text_anew}
use Rattle.graph_placing.specs.Renaming.{AreOfThreads, AreCountsOf}
use Rattle.graph_placing.specs.Renewable.{IsRenewable}
use Rattle.graph_placing.specs.Renewed.{PinsNothing}
use Rattle.graph_placing.proofs.PinsShown.{nothing_pinned}
use Rattle.graph_placing.proofs.SameGraphs.{same_anew}
use Rattle.graph_placing.proofs.ShownRenewable.{renewable_anew}
use Rattle.heap_machines.specs.Reopened.{words_reopened, AreMadeBy}
use Rattle.heap_machines.proofs.Placed.{text_unpinned, placed_can_begin}
use Rattle.heap_machines.proofs.Rested.{can_begin_again}
use Rattle.heap_seats.specs.declared.renewing.Renewal.{Renewal}
use Rattle.heap_seats.specs.declared.renewing.Renewal.TheVariants.{Renewed, Pinned, TooSmall, NoMemory}
use Rattle.heap_seats.specs.declared.seat.Seat.{Seat}
use Rattle.heap_seats.specs.FreshSeats.{AreFreshSeats}
use Rattle.heap_seats.specs.Renewed.{KeepsNames, Becomes, BeginSeats, IsGraphLeft}
use Rattle.heap_seats.specs.RenewalStage.{IsLeftRenewable, IsLeftKept}

pub if_ok : {A E : Type 0} (result : Result A E) (P Q : A → Type 0) → ((x : A) → P x → Q x) → IfOk result P → IfOk result Q
if_ok (Ok x) P Q carries first_holds = carries x first_holds
if_ok (Err error) P Q carries first_holds = tt

pub if_some : {A : Type 0} (found : Option A) (P Q : A → Type 0) → ((x : A) → P x → Q x) → IfSome found P → IfSome found Q
if_some None P Q carries first_holds = tt
if_some (Some x) P Q carries first_holds = carries x first_holds

-- what is so of some graphs is so of others that are among them
pub begin_others : (config : Config) (Of Other : Graph → Type 0) (said : Renewal) (seats : List Seat) → ((graph : Graph) → Other graph → Of graph) → BeginSeats config Of said seats → BeginSeats config Other said seats
begin_others config Of Other said seats among begin = record { start = begin.start; fresh = begin.fresh; goes_on = begin.goes_on; graphs = λ graph is_other. begin.graphs graph (among graph is_other) }

-- the graph that a text shows which shows that of each run to a stage
pub left_shown : (config : Config) (left_stage : Stage Actor) (text : Text) → ((run : Run config) → ending pause_image config run ≡ left_stage → ShowsGraph text config.mutators (graph_after pause_image config run)) → (graph : Graph) → IsGraphLeft config left_stage graph → ShowsGraph text config.mutators graph
left_shown config left_stage text shows graph is_left = subst (ShowsGraph text config.mutators) is_left.graph (shows is_left.run is_left.ends)

-- an image of a heap of these sizes
module _ (config : Config) (image : Image) (sizes : images.config_of image ≡ config) (counts : List ℕ) where
  abbrev pub start_of_image : Stage Actor
  start_of_image = stage_from (images.config_of image) (images.words_of image) counts

  image_begins : (graph : Graph) → CanBeginFrom config (images.memory_of image) counts graph → Begins config start_of_image graph
  image_begins graph can_begin =
      subst (λ (config : Config). Begins config start_of_image graph) sizes
      (begins_from (images.config_of image) (images.words_of image) counts image.all_words graph (subst (λ (config : Config). CanBeginFrom config (images.memory_of image) counts graph) (sym sizes) can_begin))

  -- a word of its start is that of the image
  start_word : (word : Word) → view config start_of_image.words word ≡ images.memory_of image word
  start_word word =
      ap (λ (words : List ℕ). view config words word) (stage_words (images.config_of image) (images.words_of image) counts)
      ∙ ap (λ (config : Config). view config (images.words_of image) word) (sym sizes)

  fresh_seats : (seats : List Seat) → AreFreshSeats (images.config_of image) start_of_image seats → AreFreshSeats config start_of_image seats
  fresh_seats seats fresh = subst (λ (config : Config). AreFreshSeats config start_of_image seats) sizes fresh

  image_can : (graph : Graph) → CanBeginFrom config (images.memory_of image) counts graph → IsRenewable config.mutators graph
      → (new_graph : Graph) × CanBeginFrom (images.config_of image) (images.memory_of image) counts new_graph × IsRenewable (images.config_of image).mutators new_graph
  image_can graph can_begin renewable = (
    graph,
    subst (λ (config : Config). CanBeginFrom config (images.memory_of image) counts graph) (sym sizes) can_begin,
    subst (λ (config : Config). IsRenewable config.mutators graph) (sym sizes) renewable,
  )

  -- in which the objects of a text have new names
  module _ (text : Text) (placeable : IsPlaceable config text) (threads : AreOfThreads config.mutators (names_of text)) (placed : IsPlaced config (text_anew text) (images.memory_of image))
      (graph_stands : Represents config (images.memory_of image) (text_graph (text_anew text) counts) (λ m. nothing)) where
    new_can : CanBeginFrom config (images.memory_of image) counts (text_graph (text_anew text) counts)
    new_can = placed_can_begin config text counts (images.memory_of image) placed graph_stands

    pub renewed_can : ∥ ((graph : Graph) × CanBeginFrom (images.config_of image) (images.memory_of image) counts graph × IsRenewable (images.config_of image).mutators graph) ∥₁
    renewed_can = ∣ image_can (text_graph (text_anew text) counts) new_can (renewable_anew config text placeable threads counts) ∣₁

    pub seats_renewed : AreCountsOf (names_of text) config.mutators counts → PinsNothing text → (seats : List Seat) → AreFreshSeats (images.config_of image) start_of_image seats → BeginSeats config (ShowsGraph text config.mutators) Renewed seats
    seats_renewed are_counts pins_nothing seats fresh = record {
      start = start_of_image;
      fresh = fresh_seats seats fresh;
      goes_on = start_word End ∙ placed.others End refl;
      graphs = λ before shows. record {
        graph = text_graph (text_anew text) counts;
        begins = image_begins (text_graph (text_anew text) counts) new_can;
        becomes = record { unpinned = nothing_pinned text config.mutators before shows placeable.threads pins_nothing; names = name_anew (names_of text); same = same_anew config text placeable threads counts are_counts before shows; no_pins = text_unpinned (text_anew text) counts };
      };
    }

  -- which has the words of a heap that came to rest
  module _ (left_stage : Stage Actor) (stage_rests : IsAtRest config left_stage) (counts_made : AreMadeBy config.mutators left_stage counts) (same_words : images.memory_of image ≡ words_reopened config (view config left_stage.words)) where
    again : (graph : Graph) → IsGraphLeft config left_stage graph → CanBeginFrom config (images.memory_of image) counts graph
    again graph is_left =
        let run = is_left.run in
        subst (λ (graph : Graph). CanBeginFrom config (images.memory_of image) counts graph) is_left.graph
        (subst (λ (memory : Word → ℕ). CanBeginFrom config memory counts (graph_after pause_image config run)) (sym same_words)
        (subst (λ (stage : Stage Actor). CanBeginFrom config (words_reopened config (view config stage.words)) counts (graph_after pause_image config run)) is_left.ends
        (can_begin_again config run (subst (λ (stage : Stage Actor). IsAtRest config stage) (sym is_left.ends) stage_rests) counts (subst (λ (stage : Stage Actor). AreMadeBy config.mutators stage counts) (sym is_left.ends) counts_made))))

    pub reopened_can : ∥ IsLeftRenewable config left_stage ∥₁ → ∥ ((graph : Graph) × CanBeginFrom (images.config_of image) (images.memory_of image) counts graph × IsRenewable (images.config_of image).mutators graph) ∥₁
    reopened_can some_renewable = ∥∥₁_map some_renewable (λ left_graph. image_can left_graph.graph (again left_graph.graph left_graph.is_left) left_graph.renewable)

    becomes_kept : (renewal : Renewal) (graph : Graph) → KeepsNames renewal config graph → Becomes renewal config graph graph
    becomes_kept Renewed graph names_kept = absurd names_kept
    becomes_kept Pinned graph names_kept = (refl, names_kept)
    becomes_kept TooSmall graph names_kept = (refl, names_kept)
    becomes_kept NoMemory graph names_kept = (refl, names_kept)

    pub seats_kept : (seats : List Seat) → AreFreshSeats (images.config_of image) start_of_image seats → (renewal : Renewal) → BeginSeats config (IsLeftKept config left_stage renewal) renewal seats
    seats_kept seats fresh renewal = record {
      start = start_of_image;
      fresh = fresh_seats seats fresh;
      goes_on = start_word End ∙ ap (λ (memory : Word → ℕ). memory End) same_words;
      graphs = λ before kept. record { graph = before; begins = image_begins before (again before kept.is_left); becomes = becomes_kept renewal before kept.keeps };
    }
