-- The ports of a cluster class itself among ends, and where they stand.
use Rattle.std.proofs.Common.{◌≡◌, refl, sym, ap, ◌∙◌, List, [], ◌∷◌, ◌++◌, append_assoc, append-nil, Option, None}
use Rattle.pz_classes.specs.pz_syntax.declared.tokens.Pos.{Pos}
use Rattle.pz_classes.specs.pz_syntax.declared.names.Id.{Id}
use Rattle.pz_classes.specs.pz_syntax.declared.clusters.ChannelEnd.{ChannelEnd}
use Rattle.pz_classes.specs.pz_syntax.declared.clusters.ChannelEnd.TheVariants.{Inner, Outer}
use Rattle.pz_check_violations.specs.declared.violation.Violation.{Violation}
use Rattle.pz_classes.specs.pz_classes_rules.ChannelRules.{end_place, both_outer}
use Rattle.pz_check_duplicates.specs.devices.Earlier.{earlier, earliest_of}
use Rattle.pz_check_duplicates.specs.devices.Again.{later_of, found_in, repeats}
use Rattle.pz_check_duplicates.specs.devices.Outers.{outer_place, outer_places, any_two, itself}

-- of what is an inner end none is the same
none_for_inner : (i port : Id) (found : Option Pos) (es : List ChannelEnd) → earliest_of end_place (both_outer (Inner i port)) found es ≡ found
none_for_inner i port found [] = refl
none_for_inner i port found (Inner j other ∷ es) = none_for_inner i port found es
none_for_inner i port found (Outer other ∷ es) = none_for_inner i port found es

-- of what is an outer end all outer ends are
all_for_outer : (port : Id) (p : Pos) (found : Option Pos) (es : List ChannelEnd) → earliest_of itself (any_two p) found (outer_places es) ≡ earliest_of end_place (both_outer (Outer port)) found es
all_for_outer port p found [] = refl
all_for_outer port p found (Inner j other ∷ es) = all_for_outer port p found es
all_for_outer port p found (Outer other ∷ es) = all_for_outer port p (earlier found other.pos) es

one_more : (es : List ChannelEnd) (e : ChannelEnd) → outer_places (es ++ (e ∷ [])) ≡ outer_places es ++ outer_place e
one_more [] e = append-nil (outer_place e)
one_more (x ∷ es) e = ap (λ (ps : List Pos). outer_place x ++ ps) (one_more es e) ∙ sym (append_assoc (outer_place x) (outer_places es) (outer_place e))

found_outside : (before es : List ChannelEnd) → found_in any_two itself 17 (outer_places before) (outer_places es) ≡ found_in both_outer end_place 17 before es
found_outside before [] = refl
found_outside before (Inner i port ∷ es) =
    let same : outer_places (before ++ (Inner i port ∷ [])) ≡ outer_places before = one_more before (Inner i port) ∙ append-nil (outer_places before) in
    ap (λ (ps : List Pos). found_in any_two itself 17 ps (outer_places es)) (sym same)
    ∙ (found_outside (before ++ (Inner i port ∷ [])) es
    ∙ ap (λ (o : Option Pos). later_of 17 o i.pos ++ found_in both_outer end_place 17 (before ++ (Inner i port ∷ [])) es) (sym (none_for_inner i port None before)))
found_outside before (Outer port ∷ es) =
    ap (λ (o : Option Pos). later_of 17 o port.pos ++ found_in any_two itself 17 (outer_places before ++ (port.pos ∷ [])) (outer_places es)) (all_for_outer port port.pos None before)
    ∙ ap (λ (vs : List Violation). later_of 17 (earliest_of end_place (both_outer (Outer port)) None before) port.pos ++ vs)
    (ap (λ (ps : List Pos). found_in any_two itself 17 ps (outer_places es)) (sym (one_more before (Outer port))) ∙ found_outside (before ++ (Outer port ∷ [])) es)

-- the outer ends repeat where their places do
pub outers_repeat : (es : List ChannelEnd) → repeats any_two itself 17 (outer_places es) ≡ repeats both_outer end_place 17 es
outers_repeat es = found_outside [] es
