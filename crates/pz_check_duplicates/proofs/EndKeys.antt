-- Ends by their keys.
use Rattle.std.proofs.Common.{◌≡◌, refl, sym, ap, ◌∙◌, ℕ, Bool, false, ◌&&◌, List, map, Bor}
use Rattle.std.specs.Str.{bytes_eq}
use Rattle.pz_classes.specs.pz_syntax.declared.tokens.Pos.{Pos}
use Rattle.pz_classes.specs.pz_syntax.declared.clusters.ChannelEnd.{ChannelEnd}
use Rattle.pz_classes.specs.pz_syntax.declared.clusters.ChannelEnd.TheVariants.{Inner, Outer}
use Rattle.pz_classes.specs.pz_classes_rules.ChannelRules.{end_place, same_end}
use Rattle.pz_check_duplicates.specs.declared.ends.EndKey.{EndKey}
use Rattle.pz_check_duplicates.specs.declared.ends.EndKey.TheVariants as key
use Rattle.pz_check_duplicates.specs.declared.places.Thing.{Thing}
use Rattle.pz_check_duplicates.specs.devices.Again.{same_key, thing_place, repeats}
use Rattle.pz_check_duplicates.specs.devices.Tips.{tip, tip_of, tip_place, same_tip, keyed_tip}
use Rattle.pz_check_duplicates.proofs.Repeated.{repeats_seen}

-- the equality of keys says this
pub record Tells (eq : EndKey → EndKey → Bool) : Type 0 where
  pub inners : (i p j q : Bor (List ℕ)) → eq (key.Inner i p) (key.Inner j q) ≡ (bytes_eq i.now j.now && bytes_eq p.now q.now)
  pub outers : (p q : Bor (List ℕ)) → eq (key.Outer p) (key.Outer q) ≡ bytes_eq p.now q.now
  pub inner_outer : (i p q : Bor (List ℕ)) → eq (key.Inner i p) (key.Outer q) ≡ false
  pub outer_inner : (i p q : Bor (List ℕ)) → eq (key.Outer q) (key.Inner i p) ≡ false

keys_alike : (eq : EndKey → EndKey → Bool) → Tells eq → (p q : Pos) (x y : EndKey) → eq x y ≡ same_tip (keyed_tip p x) (keyed_tip q y)
keys_alike eq t p q (key.Inner i a) (key.Inner j b) = t.inners i a j b
keys_alike eq t p q (key.Inner i a) (key.Outer b) = t.inner_outer i a b
keys_alike eq t p q (key.Outer a) (key.Inner j b) = t.outer_inner j b a
keys_alike eq t p q (key.Outer a) (key.Outer b) = t.outers a b

key_stands : (p : Pos) (x : EndKey) → p ≡ tip_place (keyed_tip p x)
key_stands p (key.Inner i a) = refl
key_stands p (key.Outer a) = refl

ends_alike : (x y : ChannelEnd) → same_end x y ≡ same_tip (tip x) (tip y)
ends_alike (Inner i a) (Inner j b) = refl
ends_alike (Inner i a) (Outer b) = refl
ends_alike (Outer a) (Inner j b) = refl
ends_alike (Outer a) (Outer b) = refl

end_stands : (x : ChannelEnd) → end_place x ≡ tip_place (tip x)
end_stands (Inner i a) = refl
end_stands (Outer a) = refl

-- things that stand for ends repeat where these do
pub ends_repeat : (eq : EndKey → EndKey → Bool) → Tells eq → (rule : ℕ) (things : List (Thing EndKey)) (ends : List ChannelEnd)
    → map tip_of things ≡ map tip ends → repeats (same_key eq) thing_place rule things ≡ repeats same_end end_place rule ends
ends_repeat eq t rule things ends same =
    repeats_seen (same_key eq) thing_place tip_of same_tip tip_place (λ x y. keys_alike eq t x.place y.place x.key y.key) (λ x. key_stands x.place x.key) rule things
    ∙ (ap (repeats same_tip tip_place rule) same
    ∙ sym (repeats_seen same_end end_place tip same_tip tip_place ends_alike end_stands rule ends))
