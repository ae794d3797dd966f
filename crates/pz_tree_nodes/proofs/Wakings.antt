-- Whether some active part is of a sort, form by form.
use Rattle.std.proofs.Common.{◌≡◌, ℕ, suc, Bool, true, false, ◌||◌, List, [], ◌∷◌, ◌++◌, map, Result, Ok, Err, refl, ap, sym, ◌∙◌}
use Rattle.pz_rules.specs.pz_offer.declared.trouble.Trouble.{Trouble}
use Rattle.pz_rules.specs.Terms.{Term, Terms, no_terms, and}
use Rattle.pz_rules.specs.Settings.{Context}
use Rattle.pz_rules.specs.devices.Walk.{ActivePart, under, behind, active_parts, active_children}
use Rattle.pz_tree_standing.specs.Woken.{any_part}
use Rattle.pz_tree_nodes.specs.Keeping.{any_term}

pub or_associative : (a b c : Bool) → (a || b) || c ≡ a || (b || c)
or_associative true b c = refl
or_associative false b c = refl

pub or_none : (a : Bool) → a || false ≡ a
or_none true = refl
or_none false = refl

module _ (q : Term → Bool) where
  pub in_both : (ps qs : List ActivePart) → any_part q (ps ++ qs) ≡ any_part q ps || any_part q qs
  in_both [] qs = refl
  in_both (p ∷ ps) qs = ap (λ b. q p.part || b) (in_both ps qs) ∙ sym (or_associative (q p.part) (any_part q ps) (any_part q qs))

  pub in_under : (i : ℕ) (ps : List ActivePart) → any_part q (map (under i) ps) ≡ any_part q ps
  in_under i [] = refl
  in_under i (p ∷ ps) = ap (λ b. q p.part || b) (in_under i ps)

  -- of two parts, both active
  pub in_two : (ps qs : List ActivePart) → any_part q (map (under 0) ps ++ map (under 1) qs) ≡ any_part q ps || any_part q qs
  in_two ps qs = in_both (map (under 0) ps) (map (under 1) qs) ∙ (λ i. in_under 0 ps i || in_under 1 qs i)

  pub in_behind : (r : Result Bool Trouble) (ps qs : List ActivePart) → any_part q ps ≡ any_part q qs → any_part q (behind r ps) ≡ any_part q (behind r qs)
  in_behind (Ok true) ps qs e = e
  in_behind (Ok false) ps qs e = refl
  in_behind (Err t) ps qs e = refl

  -- of parts side by side
  pub in_children : (a : Context) (f k : ℕ) (ts : Terms) → any_part q (active_children a f k ts) ≡ any_term (λ t. any_part q (active_parts a f t)) ts
  in_children a f k no_terms = refl
  in_children a f k (and t ts) = in_both (map (under k) (active_parts a f t)) (active_children a f (suc k) ts) ∙ (λ i. in_under k (active_parts a f t) i || in_children a f (suc k) ts i)
