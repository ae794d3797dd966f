-- The wires of one more channel.
use Rattle.std.proofs.Common.{◌≡◌, refl, sym, ap, ◌∙◌, ℕ, suc, ◌+◌, Bool, true, false, List, [], ◌∷◌, ◌++◌, append_assoc, length, length-append, take, Option, if◌then◌else◌, arith}
use Rattle.std.specs.Option.{is_some, unwrap_or}
use Rattle.pz_bind_levels.specs.devices.Walking.{wire, new_wires, own_wires}
use Rattle.pz_bind_levels.specs.declared.expansion.Wire.{Wire}

module _ (above : Option ℕ → Option ℕ) where
  abbrev one_new : ℕ → ℕ → Option ℕ → List Wire
  one_new level k port = if is_some (above port) then [] else wire level k ∷ []

  pub new_push : (level k : ℕ) (xs : List (Option ℕ)) (port : Option ℕ) → new_wires above level k (xs ++ port ∷ []) ≡ new_wires above level k xs ++ one_new level (k + length xs) port
  new_push level k [] port = let here : k + 0 ≡ k = omega arith in rw here (by_test (is_some (above port)))
    where
      by_test : (b : Bool) → (if b then [] else wire level k ∷ []) ++ [] ≡ (if b then [] else wire level k ∷ [])
      by_test true = refl
      by_test false = refl
  new_push level k (x ∷ xs) port =
      let later : k + suc (length xs) ≡ suc k + length xs = omega arith in
      rw (new_push level (suc k) xs port, later) (sym (append_assoc (one_new level k x) (new_wires above level (suc k) xs) (one_new level (suc k + length xs) port)))

  pub own_push : (level k w : ℕ) (xs : List (Option ℕ)) (port : Option ℕ) → own_wires above w (xs ++ port ∷ []) ≡ own_wires above w xs ++ unwrap_or (above port) (w + length (new_wires above level k xs)) ∷ []
  own_push level k w [] port = let here : w + 0 ≡ w = omega arith in rw here refl
  own_push level k w (x ∷ xs) port = by_test (own_push level (suc k) w xs port) (own_push level (suc k) (suc w) xs port) (is_some (above x)) refl
    where
      Pushed : ℕ → ℕ → List (Option ℕ) → Type 0
      Pushed k w xs = own_wires above w (xs ++ port ∷ []) ≡ own_wires above w xs ++ unwrap_or (above port) (w + length (new_wires above level k xs)) ∷ []

      by_test : Pushed (suc k) w xs → Pushed (suc k) (suc w) xs → (b : Bool) → is_some (above x) ≡ b → Pushed k w (x ∷ xs)
      by_test same more true is = rw (is, same) refl
      by_test same more false is =
          let later : w + suc (length (new_wires above level (suc k) xs)) ≡ suc w + length (new_wires above level (suc k) xs) = omega arith in
          rw (is, more, later) refl

  pub one_more : (level i w : ℕ) (outs : List (Option ℕ)) (port result : Option ℕ) (before wires wires' : List Wire) (own own' : List ℕ) → take (i + 1) outs ≡ take i outs ++ port ∷ [] → length (take i outs) ≡ i
      → own ≡ own_wires above (length before) (take i outs) → wires ≡ before ++ new_wires above level 0 (take i outs)
      → result ≡ above port → w ≡ unwrap_or result (length wires) → wires' ≡ wires ++ (if is_some result then [] else wire level i ∷ []) → own' ≡ own ++ w ∷ []
      → (own' ≡ own_wires above (length before) (take (i + 1) outs)) × (wires' ≡ before ++ new_wires above level 0 (take (i + 1) outs))
  one_more level i w outs port result before wires wires' own own' more counted was were is number grown longer =
      let size : length wires ≡ length before + length (new_wires above level 0 (take i outs)) = ap (λ (ws : List Wire). length ws) were ∙ length-append before (new_wires above level 0 (take i outs)) in
      let here : 0 + length (take i outs) ≡ i = omega arith in (
        (longer ∙ rw (was, number, is, size, more) (sym (own_push level 0 (length before) (take i outs) port))),
        (grown ∙ rw (were, is, more, new_push level 0 (take i outs) port, here) (append_assoc before (new_wires above level 0 (take i outs)) (one_new level i port))),
      )
