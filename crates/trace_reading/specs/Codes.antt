-- Which texts are the code of a place.
use Rattle.std.specs.Prelude.{ℕ, Bool, List, [], ◌∷◌, nat_eq}
use Rattle.std.specs.List.{list_any}
use Rattle.std.specs.Cmp.Lexicographic.{pointwise}
use Rattle.heap_words.specs.declared.place.Place.{Place}
use Rattle.heap_words.specs.declared.place.Place.TheVariants.{E1, E2, E3, E4, PH, CS, LV, ML, H0, RL, SH, FL, FS, FX, CX, NL, NS, NM, RS, AK, PB, PN, BC, BL, GO, BZ, BE, BN, TC, TR, TT, TX, TF, TG, TV, TQ, TZ, TS, IW, WS, WK, WO, WP, WL, WC, HL, XL, XC, SL, CL, CP, HI, HX, GB, XS, OL, OX, XW, HR, MC, EC, UC, KX, MG, MB, MO, MS, MF, ET, EF, ES, EB, UL, UT, UG, US, UB, UF, UH, UX, I0, IE, I1, I2, P1, P2, PL, PS, P3}
use Rattle.heap_words.specs.Place.{code_of}

abbrev pub places : List Place
places =
    E1 ∷ E2 ∷ E3 ∷ E4 ∷ PH ∷ CS ∷ LV ∷ ML ∷ H0 ∷ RL ∷ SH ∷ FL ∷ FS ∷ FX ∷ CX ∷ NL
    ∷ NS ∷ NM ∷ RS ∷ AK ∷ PB ∷ PN ∷ BC ∷ BL ∷ GO ∷ BZ ∷ BE ∷ BN ∷ TC ∷ TR ∷ TT ∷ TX
    ∷ TF ∷ TG ∷ TV ∷ TQ ∷ TZ ∷ TS ∷ IW ∷ WS ∷ WK ∷ WO ∷ WP ∷ WL ∷ WC ∷ HL ∷ XL ∷ XC
    ∷ SL ∷ CL ∷ CP ∷ HI ∷ HX ∷ GB ∷ XS ∷ OL ∷ OX ∷ XW ∷ HR ∷ MC ∷ EC ∷ UC ∷ KX ∷ MG
    ∷ MB ∷ MO ∷ MS ∷ MF ∷ ET ∷ EF ∷ ES ∷ EB ∷ UL ∷ UT ∷ UG ∷ US ∷ UB ∷ UF ∷ UH ∷ UX
    ∷ I0 ∷ IE ∷ I1 ∷ I2 ∷ P1 ∷ P2 ∷ PL ∷ PS ∷ P3 ∷ []

-- whether a text is the code of a place
unfoldable pub is_code : List ℕ → Bool
is_code text = list_any (λ p. pointwise nat_eq (code_of p) text) places
