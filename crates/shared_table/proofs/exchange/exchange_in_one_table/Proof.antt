-- Both references are opened, and what the two seats own crosses over where their tables are one.
use Rattle.atomic_table.proofs.Names.{◌≡◌, ℕ, List, [], ◌∷◌, refl, ap, a_type, named, Val, vunit, vptr, inst_fn, SProp, emp, Fml, ftrue, fsep, flft, ‵, raw, ◌⊛◌, ◌$◌, ◌∵◌, !, qed, by, move, keep, split, join, fsplit, fsplit3, fjoin, fjoin3, use0, use2, feq_i, unit_lit, of_opd, returns, enter, alloc_all, pass_all, free_all, look_at, sets, tables, RattleType, owns, types_at, plain, nothing, param, layouts, Stays, walk_of, fact, fact_i, Coded, mut_vals, mut_Tells, opens, closes, stay_ref, Goes-ref}
use Rattle.std.proofs.Common.{◌≢◌, ◌⊎◌, inl, inr, ⊎_elim}
use Rattle.atomic_table.proofs.Walks.{proved, leaves}
use Rattle.atomic_table.specs.Table.{Me}
use Rattle.atomic_table.specs.Seated.{mine}
use Rattle.atomic_table.specs.contracts.shared.Seat as seat
use Rattle.shared_table.proofs.Tables.{table_decided}
use Rattle.shared_table.proofs.Crossing.{which, which_same, which_one, crossed}
use Rattle.shared_table.specs.contracts.exchange.exchange_in_one_table.{ended, clauses}
use Rattle.shared_table.specs.contracts.exchange.exchange_in_one_table.Key.{name as #self}
use Rattle.shared_table.proofs.exchange.exchange_in_one_table.Statement.{statement}
use Rattle.shared_table.proofs.exchange.exchange_in_one_table.Code as code

pub exchange_in_one_table_spec : {M : Type 1} → statement M
exchange_in_one_table_spec 𝓤 𝓛 𝓜 𝓡 wired T U _ _ =
    let H = 𝓛.H in let 𝓣 = tables 𝓤 H 𝓜 𝓡 𝓡.env in let R : RattleType = param 0 T in let W : RattleType = param 1 U in let En = ended T U in
    let inst = layouts (a_type ∷ a_type ∷ []) (T, (U, tt)) in let inner_function = inst_fn inst code.function in let Sr : RattleType = seat.the_row R W in let sitter = plain (λ _. Sr) in
    let parameters_stay : Stays En.signature.params En.kept = (stay_ref (0 ∷ []) tt sitter, (stay_ref (1 ∷ []) tt sitter, tt)) in let c = clauses T U 𝓛 𝓜.mem 𝓡.returns in
    proved 𝓛 En parameters_stay c 𝓜 𝓡 (Goes-ref 𝓛 4 0 tt sitter, (Goes-ref 𝓛 4 1 tt sitter, tt)) (#self inst) inner_function (code.unfolded 𝓤 H 𝓜 𝓡 wired (T, (U, tt)))
    (λ κs. (mut_vals, (mut_vals, tt))) (λ κs. (mut_Tells (named 0) κs.0 Sr, (mut_Tells (named 1) κs.1.0 Sr, tt))) (λ κs shares bounds arguments gh tables_are.
    let first_block : ℕ = arguments.0.ref_ptr.0 in let first_offset : ℕ = arguments.0.ref_ptr.1 in let second_block : ℕ = arguments.1.0.ref_ptr.0 in let second_offset : ℕ = arguments.1.0.ref_ptr.1 in let view_code : Coded U.Denot = W.coded in
    let first_seat : Sr.Denot = arguments.0.now in let second_seat : Sr.Denot = arguments.1.0.now in
    let tables_decided : (first_seat.table_id ≡ second_seat.table_id) ⊎ (first_seat.table_id ≢ second_seat.table_id) = table_decided first_seat.table_id second_seat.table_id in
    let first_machines : ℕ × Me T.Denot U.Denot = (first_seat.id, first_seat.me) in let second_machines : ℕ × Me T.Denot U.Denot = (second_seat.id, second_seat.me) in
    let first_change : ℕ × Me T.Denot U.Denot = which tables_decided second_machines first_machines in let second_change : ℕ × Me T.Denot U.Denot = which tables_decided first_machines second_machines in
    let first_then : Sr.Denot = record { marker = first_seat.marker; table_id = first_seat.table_id; id = first_change.0; me = first_change.1 } in
    let second_then : Sr.Denot = record { marker = second_seat.marker; table_id = second_seat.table_id; id = second_change.0; me = second_change.1 } in
    let Told : Type 0 = (first_then.table_id ≡ first_seat.table_id) × (second_then.table_id ≡ second_seat.table_id) × (first_seat.table_id ≡ second_seat.table_id → (first_then.me ≡ second_seat.me) × (second_then.me ≡ first_seat.me)) × ((second_then.me ≡ first_seat.me) ⊎ (second_then.me ≡ second_seat.me)) in
    let told_facts : Told = (refl, refl, (λ equal. (ap (λ x. x.1) (which_same tables_decided second_machines first_machines equal), ap (λ x. x.1) (which_same tables_decided first_machines second_machines equal))), (⊎_elim (λ equal. inl (ap (λ x. x.1) equal)) (λ equal. inr (ap (λ x. x.1) equal)) (which_one tables_decided first_machines second_machines))) in
    let ghosts : (walk_of 𝓛 En parameters_stay c).Ghost = ((κs, shares, bounds, arguments, (vptr first_block first_offset ∷ [], (vptr second_block second_offset ∷ [], tt))), gh) in let Post : Val → SProp 𝓤 = (walk_of 𝓛 En parameters_stay c).post ghosts in
    let rest : Fml = fsep (flft κs.1.1.0 shares.1.1.0) (fsep (flft κs.1.1.1.0 shares.1.1.1.0) ftrue) in
    let others : Fml = fsep (flft κs.1.0 shares.1.0) rest in
    qed 𝓛 (((‵ (flft κs.0 shares.0) ⊛ ‵ others) ⊛ ‵ (owns (types_at En.signature.params κs) arguments ghosts.0.4)) ∷ raw ((c κs arguments).requires gh) ∷ []) ∵
    split ! $ split ! $ move ! (2 ∷ []) $ fsplit ! $ fsplit3 ! $ move ! (3 ∷ []) $ fsplit ! $ fsplit3 ! $ move ! (8 ∷ []) $ fsplit ! $ keep ! (7 ∷ 8 ∷ 9 ∷ 3 ∷ 4 ∷ 0 ∷ 1 ∷ []) $
    -- [the first reference, and its token; the second, and its token; the other tokens]
    enter ! 𝓣.C 𝓣.Λ inner_function (vptr first_block first_offset ∷ vptr second_block second_offset ∷ []) Post $ alloc_all ! (λ l. pass_all ! refl ((tt, tt), ((tt, tt), tt)) $
    opens ! tt Sr first_block first_offset (λ first_tokens. move ! (5 ∷ 6 ∷ 7 ∷ []) $ opens ! tt Sr second_block second_offset (λ second_tokens.
    move ! (1 ∷ []) $ fsplit ! $ move ! (7 ∷ []) $ fsplit ! $ move ! (1 ∷ 3 ∷ []) $
    use2 𝓛 (‵ (mine R view_code.code first_seat.table_id first_change.0 first_change.1) ⊛ ‵ (mine R view_code.code second_seat.table_id second_change.0 second_change.1)) (crossed 𝓛 R view_code.code first_seat.table_id first_machines second_machines second_seat.table_id tables_decided) $ split ! $
    move ! (3 ∷ 1 ∷ []) $ fjoin ! $ move ! (3 ∷ 0 ∷ 4 ∷ 5 ∷ 6 ∷ []) $ closes ! tt Sr second_then second_tokens second_block second_offset $ feq_i ! (List Val) (vptr second_block second_offset ∷ []) (vptr second_block second_offset ∷ []) refl $ fjoin3 ! $
    move ! (3 ∷ 2 ∷ []) $ fjoin ! $ move ! (3 ∷ 0 ∷ 4 ∷ 5 ∷ 6 ∷ []) $ closes ! tt Sr first_then first_tokens first_block first_offset $ feq_i ! (List Val) (vptr first_block first_offset ∷ []) (vptr first_block first_offset ∷ []) refl $ fjoin3 ! $
    nothing ! $ move ! (3 ∷ 0 ∷ []) $ fjoin ! $ move ! (1 ∷ 0 ∷ []) $ fjoin ! $ move ! (2 ∷ 3 ∷ []) $ fjoin ! $ move ! (2 ∷ 0 ∷ []) $ join ! $
    sets ! (of_opd ! (unit_lit !)) refl (tt, tt) $ use0 𝓛 (raw (fact 𝓤 Told)) (fact_i 𝓤 Told (emp 𝓤) told_facts) $ feq_i ! (List Val) (vunit ∷ []) (vunit ∷ []) refl $
    returns ! (look_at ! 0 refl) $ free_all ! refl $ keep ! (2 ∷ 3 ∷ 0 ∷ 1 ∷ []) $ by ! (leaves 𝓛 En parameters_stay c ghosts vunit tt (first_then, (second_then, tt)) (tt, (tt, tt)))))))
