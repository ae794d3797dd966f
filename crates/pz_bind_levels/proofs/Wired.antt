-- The wires of a level that is entered.
use Rattle.std.proofs.Common.{◌≡◌, refl, sym, ap, ◌∙◌, subst, ℕ, zero, suc, ◌+◌, true, List, [], ◌∷◌, ◌++◌, append_assoc, length, Option, Some, None, slice_get, arith}
use Rattle.std.specs.Option.{is_some, unwrap_or, option_map_or}
use Rattle.std.proofs.lemmas.List.{length_push}
use Rattle.pz_bind_levels.specs.Layouts.{Layout}
use Rattle.pz_bind_levels.specs.Places.{Address, Spot}
use Rattle.pz_bind_levels.specs.Wires.{Channel, channel, joined_by, ending}
use Rattle.pz_bind_levels.specs.devices.Expanded.{EachOf, IsWire}
use Rattle.pz_bind_levels.specs.devices.Tops.{top}
use Rattle.pz_bind_levels.specs.devices.Walking.{wire, new_wires, own_wires}
use Rattle.pz_bind_levels.proofs.Each.{in_first, at_end, none, one_first}

module _ (layouts : List Layout) (system : ℕ) where
  -- the last channel reached from the channel of this number that has this port of its level
  abbrev pub top_by : Address → Option ℕ → ℕ → Channel
  top_by [] port k = channel [] k
  top_by (i ∷ up) port k = option_map_or (top layouts system up) (joined_by layouts system (i ∷ up) port) (channel (i ∷ up) k)

  pub top_by_port : (place : Address) (k : ℕ) → top layouts system place k ≡ top_by place (unwrap_or (slice_get (Rattle.pz_bind_levels.specs.Places.layout_at layouts system place).outer k) None) k
  top_by_port [] k = refl
  top_by_port (i ∷ up) k = refl

  -- a channel that has this port is joined outside just where a wire outside is known, and with that one
  pub data Fits (cs : List Channel) (place : Address) (above : Option ℕ) (port : Option ℕ) : Type 0 where
    ends : above ≡ None → joined_by layouts system place port ≡ None → Fits cs place above port
    goes_on : (w : ℕ) → above ≡ Some w → is_some (joined_by layouts system place port) ≡ true → ((k : ℕ) → slice_get cs w ≡ Some (top_by place port k)) → Fits cs place above port

  pub fits_more : (cs more : List Channel) (place : Address) (above port : Option ℕ) → Fits cs place above port → Fits (cs ++ more) place above port
  fits_more cs more place above port (ends here outside) = ends here outside
  fits_more cs more place above port (goes_on w is some at) = goes_on w is some (λ k. in_first cs more w (top_by place port k) (at k))

  top_of_end : (place : Address) (port : Option ℕ) (k : ℕ) → joined_by layouts system place port ≡ None → top_by place port k ≡ channel place k
  top_of_end [] port k none = refl
  top_of_end (i ∷ up) port k none = rw none refl

  module _ (above : Option ℕ → Option ℕ) (place : Address) where
    module _ (ss : List Spot) (s : Spot) (level : ℕ) (stands : slice_get ss level ≡ Some s) (at : s.place ≡ place) where
      -- the new wires are the channels that are joined no further
      pub new_are : (cs : List Channel) → ((port : Option ℕ) → Fits cs place (above port) port) → (k : ℕ) (ports : List (Option ℕ)) → EachOf (IsWire ss) (new_wires above level k ports) (ending layouts system place k ports)
      new_are cs fits k [] = none (IsWire ss)
      new_are cs fits k (port ∷ ports) = by_fit (new_are cs fits (suc k) ports) (fits port)
        where
          by_fit : EachOf (IsWire ss) (new_wires above level (suc k) ports) (ending layouts system place (suc k) ports) → Fits cs place (above port) port
              → EachOf (IsWire ss) (new_wires above level k (port ∷ ports)) (ending layouts system place k (port ∷ ports))
          by_fit later (ends here outside) = rw (here, outside) (one_first (IsWire ss) (wire level k) (channel place k) _ _ (record { level = s; stands = stands; place = sym at; number = refl }) later)
          by_fit later (goes_on w is some _) = rw (is, some) later

    -- each channel has the wire of the last channel reached
    pub record Have (cs : List Channel) (k : ℕ) (ports : List (Option ℕ)) (ws : List ℕ) : Type 0 where
      pub counted : length ws ≡ length ports
      pub each : (n w : ℕ) (port : Option ℕ) → slice_get ports n ≡ Some port → slice_get ws n ≡ Some w → slice_get cs w ≡ Some (top_by place port (k + n))

    one_has : (cs : List Channel) (k w : ℕ) (port : Option ℕ) (ports : List (Option ℕ)) (ws : List ℕ) → slice_get cs w ≡ Some (top_by place port k) → Have cs (suc k) ports ws → Have cs k (port ∷ ports) (w ∷ ws)
    one_has cs k w port ports ws at later = record { counted = ap suc later.counted; each = by_place }
      where
        by_place : (n v : ℕ) (p : Option ℕ) → slice_get (port ∷ ports) n ≡ Some p → slice_get (w ∷ ws) n ≡ Some v → slice_get cs v ≡ Some (top_by place p (k + n))
        by_place zero v p here wired =
            let one : port ≡ p = cc in
            let two : w ≡ v = cc in
            let zero_more : k + 0 ≡ k = omega arith in
            rw (← two, ← one, zero_more) at
        by_place (suc n) v p here wired = let more : k + suc n ≡ suc k + n = omega arith in rw more (later.each n v p here wired)

    pub own_have : (cs : List Channel) (w : ℕ) → length cs ≡ w → ((port : Option ℕ) → Fits cs place (above port) port) → (k : ℕ) (ports : List (Option ℕ)) → Have (cs ++ ending layouts system place k ports) k ports (own_wires above w ports)
    own_have cs w size fits k [] = record { counted = refl; each = λ n v p here _. absurd (nowhere n p here) }
      where
        nowhere : (n : ℕ) (p : Option ℕ) → slice_get {X = Option ℕ} [] n ≡ Some p → ⊥
        nowhere n p here = cc
    own_have cs w size fits k (port ∷ ports) =
        by_fit (own_have cs w size fits (suc k) ports)
        (own_have (cs ++ channel place k ∷ []) (suc w) (length_push cs (channel place k) ∙ omega (arith, size)) (λ p. fits_more cs (channel place k ∷ []) place (above p) p (fits p)) (suc k) ports)
        (fits port)
      where
        by_fit : Have (cs ++ ending layouts system place (suc k) ports) (suc k) ports (own_wires above w ports)
            → Have ((cs ++ channel place k ∷ []) ++ ending layouts system place (suc k) ports) (suc k) ports (own_wires above (suc w) ports)
            → Fits cs place (above port) port → Have (cs ++ ending layouts system place k (port ∷ ports)) k (port ∷ ports) (own_wires above w (port ∷ ports))
        by_fit same more (ends here outside) = rw (here, outside)
            (one_has (cs ++ channel place k ∷ ending layouts system place (suc k) ports) k w port ports (own_wires above (suc w) ports)
            (rw (top_of_end place port k outside, ← size) (at_end cs (channel place k) (ending layouts system place (suc k) ports)))
            (subst (λ (xs : List Channel). Have xs (suc k) ports (own_wires above (suc w) ports)) (append_assoc cs (channel place k ∷ []) (ending layouts system place (suc k) ports)) more))
        by_fit same more (goes_on v is some at) = rw (is, some)
            (one_has (cs ++ ending layouts system place (suc k) ports) k v port ports (own_wires above w ports) (in_first cs (ending layouts system place (suc k) ports) v (top_by place port k) (at k)) same)
