-- The pairs with an end in the process have what the judge says.
use Rattle.std.proofs.Common.{◌≡◌, ◌≢◌, ◌<◌, ◌⊎◌, inl, inr, refl, sym, ◌∙◌, ap, subst, ℕ, zero, suc, Bool, true, false, nat_eq, List, [], ◌∷◌, ◌++◌, length, get_or, set, Some, if◌then◌else◌, arith}
use Rattle.std.specs.Prelude.{All, map, Contains}
use Rattle.std.specs.List.{slice_get, flat_map}
use Rattle.std.proofs.lemmas.Bool.{eq-eqb, ne_eqb, false≢true, cases_eq, or_cases, eqb-true}
use Rattle.std.proofs.lemmas.List.{length-set, get_or-set_other}
use Rattle.std.proofs.lemmas.List.Elements.{All-weaker, All-nil, All-contains, filter-append}
use Rattle.std.proofs.lemmas.Option.{slice_get-get_or, get_or_from_slice_get, slice_get_within}
use Rattle.pz_match.specs.declared.offers.Sender.{Sender}
use Rattle.pz_match.specs.declared.rows.Row.{Row}
use Rattle.pz_match.specs.declared.kept.Sending.{Sending}
use Rattle.pz_match.specs.declared.kept.Receiving.{Receiving}
use Rattle.pz_match.specs.Judging.{Verdicts, said}
use Rattle.pz_match.specs.Pairs.{Judged, touches}
use Rattle.pz_match.specs.devices.Kept.{Kept, rows_at, answers, heard, all_pairs}
use Rattle.pz_match.specs.devices.Tallies.{GroupsView}
use Rattle.pz_match.specs.devices.Asking.{asked, asked_in, renewed}
use Rattle.pz_match.specs.devices.Holding.{Holds, Sound}
use Rattle.pz_match.specs.devices.Updating.{renewed_in, silent, other_offers}
use Rattle.pz_match.proofs.Replacing.{new_here, new_there, new_length, forgotten, rows_forgotten, rows_own, rows_of, all_asked, silent_numbered, asked_own}
use Rattle.pz_match.proofs.Sought.{numbered_at}
use Rattle.pz_match.proofs.Telling.{all_judged, heard_ends, told}

module _ (says : Verdicts) (p : ℕ) (sent : List Sending) (hears : List Receiving) (all : List Kept) (within : p < length all) (g0 g1 : GroupsView) (holds : Holds g0 all) (after : Holds g1 (other_offers says p sent hears all))
    (answered : All (λ s. s.rows ≡ flat_map (asked_in says s.sender s.group) (set all p (silent p))) sent) where
  abbrev Right : Judged → Type 0
  Right q = touches p q ≡ true → q.verdict ≡ said says q.sender q.receiver

  long : length (other_offers says p sent hears all) ≡ length all
  long = new_length says p sent hears all within

  -- a send of the process
  by_own : (j : ℕ) (x : Kept) (s : Sending) → slice_get (other_offers says p sent hears all) j ≡ Some x → Contains sent s → s.sender.end.process ≡ p → All (λ q. q.verdict ≡ said says q.sender q.receiver) (heard s x)
  by_own j x s at among own = by (nat_eq x.process s.sender.end.process) refl
    where
      number : x.process ≡ j
      number = numbered_at g1 (other_offers says p sent hears all) after j x at

      rows : s.rows ≡ flat_map (asked_in says s.sender s.group) (set all p (silent p))
      rows = All-contains (λ (s : Sending). s.rows ≡ flat_map (asked_in says s.sender s.group) (set all p (silent p))) sent s answered among

      by : (b : Bool) → nat_eq x.process s.sender.end.process ≡ b → All (λ (q : Judged). q.verdict ≡ said says q.sender q.receiver) (if b then [] else answers s.sender s.group (rows_at x.process s.rows) x.receives)
      by true same = All-nil (λ (q : Judged). q.verdict ≡ said says q.sender q.receiver)
      by false other =
          let apart : j ≢ p = λ e. false≢true (sym other ∙ eq-eqb x.process s.sender.end.process (number ∙ (e ∙ sym own))) in
          let lt : j < length all = omega (arith, slice_get_within (other_offers says p sent hears all) j x at, long) in
          let is_x : get_or (other_offers says p sent hears all) j x ≡ x = get_or_from_slice_get (other_offers says p sent hears all) j x x at in
          let e : Kept = get_or all j x in
          let from : renewed_in says p hears e ≡ x = sym (new_there says p sent hears all within j x apart lt) ∙ is_x in
          let mid : slice_get (set all p (silent p)) j ≡ Some e
          = slice_get-get_or (set all p (silent p)) j x (omega (arith, lt, length-set all p (silent p))) ∙ ap (λ (z : Kept). Some z) (get_or-set_other all p j (silent p) x apart) in
          let here : rows_at x.process s.rows ≡ asked says s.sender s.group x.process x.receives
          = ap (rows_at x.process) rows
          ∙ (ap (λ k. rows_at k (flat_map (asked_in says s.sender s.group) (set all p (silent p)))) number
          ∙ (rows_of (asked_in says s.sender s.group) (asked_own says p sent hears all within g0 holds s) 0 j j (set all p (silent p)) e (silent_numbered says p sent hears all within g0 holds) mid (omega arith)
          ∙ (ap (λ (z : Kept). if nat_eq z.process s.sender.end.process then [] else asked says s.sender s.group z.process z.receives) from
          ∙ ap (λ b. if b then [] else asked says s.sender s.group x.process x.receives) other))) in
          subst (λ (ys : List Row). All (λ (q : Judged). q.verdict ≡ said says q.sender q.receiver) (answers s.sender s.group ys x.receives)) (sym here) (told says s.sender s.group x.process x.receives)

  -- a send of another process that the process hears
  by_heard : (s : Sending) → s.sender.end.process ≢ p → All (λ (q : Judged). q.verdict ≡ said says q.sender q.receiver) (heard (renewed says p hears s) (record { process = p; sends = sent; receives = hears }))
  by_heard s foreign =
      let from_p : All (λ (r : Row). r.process ≡ p) (asked says s.sender s.group p hears) = all_asked says s.sender s.group p (λ (r : Row). r.process ≡ p) (λ r. refl) hears in
      let rows : rows_at p (forgotten p s.rows ++ asked says s.sender s.group p hears) ≡ asked says s.sender s.group p hears
      = filter-append (λ (r : Row). nat_eq r.process p) (forgotten p s.rows) (asked says s.sender s.group p hears)
      ∙ (λ i. rows_forgotten p s.rows i ++ rows_own p (asked says s.sender s.group p hears) from_p i) in
      let other : nat_eq p s.sender.end.process ≡ false = ne_eqb p s.sender.end.process (λ e. foreign (sym e)) in
      let is : heard (renewed says p hears s) (record { process = p; sends = sent; receives = hears }) ≡ answers s.sender s.group (asked says s.sender s.group p hears) hears
      = ap (λ b. if b then [] else answers s.sender s.group (rows_at p (forgotten p s.rows ++ asked says s.sender s.group p hears)) hears) other
      ∙ ap (λ (ys : List Row). answers s.sender s.group ys hears) rows in
      subst (All (λ (q : Judged). q.verdict ≡ said says q.sender q.receiver)) (sym is) (told says s.sender s.group p hears)

  -- neither end is of the process
  by_others : (s : Sending) (x : Kept) → s.sender.end.process ≢ p → x.process ≢ p → All (λ (r : Receiving). r.receiver.end.process ≡ x.process) x.receives → All Right (heard s x)
  by_others s x one two receives =
      All-weaker (λ (q : Judged). (q.sender ≡ s.sender) × (q.receiver.end.process ≡ x.process)) Right
      (λ q ends touching. by q ends (or_cases (nat_eq q.sender.end.process p) (nat_eq q.receiver.end.process p) touching)) (heard s x) (heard_ends s x receives)
    where
      by : (q : Judged) → (q.sender ≡ s.sender) × (q.receiver.end.process ≡ x.process) → (nat_eq q.sender.end.process p ≡ true) ⊎ (nat_eq q.receiver.end.process p ≡ true) → q.verdict ≡ said says q.sender q.receiver
      by q ends (inl is) = absurd (one (sym (ap (λ (z : Sender). z.end.process) ends.0) ∙ eqb-true q.sender.end.process p is))
      by q ends (inr is) = absurd (two (sym ends.1 ∙ eqb-true q.receiver.end.process p is))

  pub all_right : (wires : ℕ) → All (λ q. touches p q ≡ true → q.verdict ≡ said says q.sender q.receiver) (all_pairs (other_offers says p sent hears all) wires)
  all_right wires = all_judged Right (other_offers says p sent hears all) wires each
    where
      each : (i j : ℕ) (e x : Kept) (s : Sending) → slice_get (other_offers says p sent hears all) i ≡ Some e → slice_get (other_offers says p sent hears all) j ≡ Some x → Contains e.sends s → All Right (heard s x)
      each i j e x s at_i at_j among = by (cases_eq i p)
        where
          sound_e : Sound g1 (other_offers says p sent hears all) e
          sound_e = subst (Sound g1 (other_offers says p sent hears all)) (get_or_from_slice_get (other_offers says p sent hears all) i e e at_i) (after.sound i e (slice_get_within (other_offers says p sent hears all) i e at_i))

          sound_x : Sound g1 (other_offers says p sent hears all) x
          sound_x = subst (Sound g1 (other_offers says p sent hears all)) (get_or_from_slice_get (other_offers says p sent hears all) j x x at_j) (after.sound j x (slice_get_within (other_offers says p sent hears all) j x at_j))

          own_e : s.sender.end.process ≡ e.process
          own_e = All-contains (λ (s : Sending). s.sender.end.process ≡ e.process) e.sends s sound_e.sends_own among

          e_is : e.process ≡ i
          e_is = numbered_at g1 (other_offers says p sent hears all) after i e at_i

          x_is : x.process ≡ j
          x_is = numbered_at g1 (other_offers says p sent hears all) after j x at_j

          weaken : All (λ (q : Judged). q.verdict ≡ said says q.sender q.receiver) (heard s x) → All Right (heard s x)
          weaken ok = All-weaker (λ (q : Judged). q.verdict ≡ said says q.sender q.receiver) Right (λ q is touching. is) (heard s x) ok

          by : (i ≡ p) ⊎ (i ≢ p) → All Right (heard s x)
          by (inl same) =
              let is_now : record { process = p; sends = sent; receives = hears } ≡ e
              = sym (new_here says p sent hears all within e) ∙ (ap (λ k. get_or (other_offers says p sent hears all) k e) (sym same) ∙ get_or_from_slice_get (other_offers says p sent hears all) i e e at_i) in
              let in_sent : Contains sent s = subst (λ (k : Kept). Contains k.sends s) (sym is_now) among in
              weaken (by_own j x s at_j in_sent (own_e ∙ (e_is ∙ same)))
          by (inr other) = then_by (cases_eq j p)
            where
              foreign : s.sender.end.process ≢ p
              foreign = λ is. other (sym e_is ∙ (sym own_e ∙ is))

              then_by : (j ≡ p) ⊎ (j ≢ p) → All Right (heard s x)
              then_by (inr apart) = by_others s x foreign (λ is. apart (sym x_is ∙ is)) sound_x.receives_own
              then_by (inl same) =
                  let is_now : record { process = p; sends = sent; receives = hears } ≡ x
                  = sym (new_here says p sent hears all within x) ∙ (ap (λ k. get_or (other_offers says p sent hears all) k x) (sym same) ∙ get_or_from_slice_get (other_offers says p sent hears all) j x x at_j) in
                  let lt : i < length all = omega (arith, slice_get_within (other_offers says p sent hears all) i e at_i, long) in
                  let from : renewed_in says p hears (get_or all i e) ≡ e = sym (new_there says p sent hears all within i e other lt) ∙ get_or_from_slice_get (other_offers says p sent hears all) i e e at_i in
                  let before = mapped (renewed says p hears) (get_or all i e).sends s (subst (λ (k : Kept). Contains k.sends s) (sym from) among) in
                  let heard_now : All (λ (q : Judged). q.verdict ≡ said says q.sender q.receiver) (heard (renewed says p hears before.0) x)
                  = subst (λ (k : Kept). All (λ (q : Judged). q.verdict ≡ said says q.sender q.receiver) (heard (renewed says p hears before.0) k)) is_now (by_heard before.0 (λ is. foreign (ap (λ (z : Sending). z.sender.end.process) (sym before.1) ∙ is))) in
                  weaken (subst (λ (z : Sending). All (λ (q : Judged). q.verdict ≡ said says q.sender q.receiver) (heard z x)) before.1 heard_now)
                where
                  mapped : (f : Sending → Sending) (xs : List Sending) (y : Sending) → Contains (map f xs) y → (z : Sending) × (f z ≡ y)
                  mapped f [] y (k, lt, is) = absurd (omega (arith, lt))
                  mapped f (z ∷ zs) y (zero, lt, is) = (z, is)
                  mapped f (z ∷ zs) y (suc k, lt, is) = mapped f zs y (k, omega (arith, lt), is)
