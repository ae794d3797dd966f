-- The summary of a term is joined of those of its parts.
use Rattle.std.proofs.Common.{◌≡◌, ℕ, suc, ◌+◌, min, Bool, true, false, List, [], ◌∷◌, ◌++◌, map, length, Option, Some, None, Result, Ok, Err, refl, ap, sym, ◌∙◌, arith}
use Rattle.std.specs.Prelude.{option_map}
use Rattle.std.specs.Option.{option_or}
use Rattle.std.specs.List.{cons_option}
use Rattle.pz_rules.specs.pz_syntax.declared.tokens.Pos.{Pos}
use Rattle.pz_rules.specs.pz_classes_code.declared.slot.Slot.{Slot}
use Rattle.pz_rules.specs.pz_offer.declared.trouble.Trouble.{Trouble}
use Rattle.pz_rules.specs.pz_offer.declared.summary.Summary.{Summary}
use Rattle.pz_rules.specs.pz_offer.Summaries.{nothing, least, join, shifted}
use Rattle.pz_rules.proofs.pz_offer_proofs.Joins.{join_associative, join_left}
use Rattle.pz_rules.specs.Terms.{Code, Step, Steps, Term, sequence, parallel, select, guarded, frame, abort, idle, handling, Terms, no_terms, and}
use Rattle.pz_rules.specs.Settings.{Context}
use Rattle.pz_rules.specs.devices.Found.{tested}
use Rattle.pz_rules.specs.devices.Walk.{ActivePart, Noted, here, under, behind, active_parts, active_children, noted, noted_at, does, sent_by, received_by, waiting, troubled_by, trouble_of}
use Rattle.pz_tree_standing.specs.Summaries.{least_of, first_of, summary_in, summary_of, summaries_of, gated}
use Rattle.pz_tree_standing.specs.devices.Tallies.{one, own_summary, tally}

-- ------------------------------------------------------------ parts, one after another

module _ (a : Context) where
  pub tally_append : (c : ℕ) (ps qs : List ActivePart) → tally a c (ps ++ qs) ≡ join (tally a c ps) (tally a c qs)
  tally_append c [] qs = sym (join_left (tally a c qs))
  tally_append c (p ∷ ps) qs = ap (join (own_summary a c p.frame p.part)) (tally_append c ps qs) ∙ sym (join_associative (own_summary a c p.frame p.part) (tally a c ps) (tally a c qs))

  pub tally_under : (c i : ℕ) (ps : List ActivePart) → tally a c (map (under i) ps) ≡ tally a c ps
  tally_under c i [] = refl
  tally_under c i (p ∷ ps) = ap (join (own_summary a c p.frame p.part)) (tally_under c i ps)

  -- the summary by lists is that by parts
  more_noted : {X : Type 0} (place : List ℕ) (o : Option X) (ns : List (Noted X)) → length (cons_option (noted_at place o) ns) ≡ one o + length ns
  more_noted place None ns = (let e : length ns ≡ 0 + length ns = omega arith in e)
  more_noted place (Some x) ns = (let e : suc (length ns) ≡ 1 + length ns = omega arith in e)

  sooner : (c : ℕ) (place : List ℕ) (o : Option ℕ) (ns : List (Noted ℕ))
      → option_map (λ left. c + left) (least_of (cons_option (noted_at place o) ns)) ≡ least (option_map (λ left. c + left) o) (option_map (λ left. c + left) (least_of ns))
  sooner c place None ns = refl
  sooner c place (Some x) ns = later (least_of ns)
    where
      later : (o : Option ℕ) → option_map (λ left. c + left) (least (Some x) o) ≡ least (Some (c + x)) (option_map (λ left. c + left) o)
      later None = refl
      later (Some y) = ap Some (let e : c + min x y ≡ min (c + x) (c + y) = omega arith in e)

  first_noted : (place : List ℕ) (o : Option Trouble) (ns : List (Noted Trouble)) → first_of (cons_option (noted_at place o) ns) ≡ option_or o (first_of ns)
  first_noted place None ns = refl
  first_noted place (Some x) ns = refl

  pub summary_is_tally : (c : ℕ) (ps : List ActivePart) → summary_in a c ps ≡ tally a c ps
  summary_is_tally c [] = refl
  summary_is_tally c (p ∷ ps) = (λ i. record {
    internal = more_noted p.place (does a p.frame p.part) (noted (does a) ps) i;
    sends = more_noted p.place (sent_by a p.frame p.part) (noted (sent_by a) ps) i;
    receives = more_noted p.place (received_by p.part) (noted (λ f. received_by) ps) i;
    due = sooner c p.place (waiting a p.frame p.part) (noted (waiting a) ps) i;
    trouble = first_noted p.place (troubled_by a p.frame p.part) (noted (troubled_by a) ps) i;
  }) ∙ ap (join (own_summary a c p.frame p.part)) (summary_is_tally c ps)

  pub tallied : ℕ → ℕ → Term → Summary
  tallied c f t = tally a c (active_parts a f t)

  pub is_tallied : (c f : ℕ) (t : Term) → summary_of a c f t ≡ tally a c (active_parts a f t)
  is_tallied c f t = summary_is_tally c (active_parts a f t)

  -- ---------------------------------------------------------- form by form

  here_adds : (c f : ℕ) (t : Term) (ps : List ActivePart) → own_summary a c f t ≡ nothing → tally a c (here f t ∷ ps) ≡ tally a c ps
  here_adds c f t ps e = ap (λ s. join s (tally a c ps)) e ∙ join_left (tally a c ps)

  pub summary_sequence : (c f : ℕ) (t : Term) (rest : Steps) → summary_of a c f (sequence t rest) ≡ summary_of a c f t
  summary_sequence c f t rest = is_tallied c f (sequence t rest) ∙ here_adds c f (sequence t rest) (map (under 0) (active_parts a f t)) refl ∙ tally_under c 0 (active_parts a f t) ∙ sym (is_tallied c f t)

  pub summary_frame : (c f number inputs : ℕ) (results : List Slot) (t : Term) → summary_of a c f (frame number inputs results t) ≡ summary_of a c number t
  summary_frame c f number inputs results t = is_tallied c f (frame number inputs results t) ∙ here_adds c f (frame number inputs results t) (map (under 0) (active_parts a number t)) refl ∙ tally_under c 0 (active_parts a number t) ∙ sym (is_tallied c number t)

  behind_gate : (r : Result Bool Trouble) (c : ℕ) (ps : List ActivePart) → join (record nothing { trouble = trouble_of r }) (tally a c (behind r ps)) ≡ gated r (tally a c ps)
  behind_gate (Ok true) c ps = join_left (tally a c ps)
  behind_gate (Ok false) c ps = refl
  behind_gate (Err t) c ps = refl

  pub summary_guarded : (c f : ℕ) (test : Code) (at : Pos) (t : Term) → summary_of a c f (guarded test at t) ≡ gated (tested a f at test) (summary_of a c f t)
  summary_guarded c f test at t = is_tallied c f (guarded test at t) ∙ behind_gate (tested a f at test) c (map (under 0) (active_parts a f t)) ∙ ap (gated (tested a f at test)) (tally_under c 0 (active_parts a f t) ∙ sym (is_tallied c f t))

  two_parts : (c : ℕ) (ps qs : List ActivePart) → tally a c (map (under 0) ps ++ map (under 1) qs) ≡ join (tally a c ps) (tally a c qs)
  two_parts c ps qs = tally_append c (map (under 0) ps) (map (under 1) qs) ∙ rw (tally_under c 0 ps, tally_under c 1 qs) refl

  pub summary_abort : (c f : ℕ) (t u : Term) → summary_of a c f (abort t u) ≡ join (summary_of a c f t) (summary_of a c f u)
  summary_abort c f t u = is_tallied c f (abort t u) ∙ here_adds c f (abort t u) (map (under 0) (active_parts a f t) ++ map (under 1) (active_parts a f u)) refl ∙ two_parts c (active_parts a f t) (active_parts a f u) ∙ (λ i. join (sym (is_tallied c f t) i) (sym (is_tallied c f u) i))

  pub summary_idle : (c f : ℕ) (t u : Term) (again : Step) → summary_of a c f (idle t u again) ≡ join (summary_of a c f t) (summary_of a c f u)
  summary_idle c f t u again = is_tallied c f (idle t u again) ∙ here_adds c f (idle t u again) (map (under 0) (active_parts a f t) ++ map (under 1) (active_parts a f u)) refl ∙ two_parts c (active_parts a f t) (active_parts a f u) ∙ (λ i. join (sym (is_tallied c f t) i) (sym (is_tallied c f u) i))

  pub summary_handling : (c f : ℕ) (t u : Term) (again : Step) → summary_of a c f (handling t u again) ≡ summary_of a c f u
  summary_handling c f t u again = is_tallied c f (handling t u again) ∙ here_adds c f (handling t u again) (map (under 1) (active_parts a f u)) refl ∙ tally_under c 1 (active_parts a f u) ∙ sym (is_tallied c f u)

  -- of parts side by side
  side_by_side : (c f k : ℕ) (ts : Terms) → tally a c (active_children a f k ts) ≡ summaries_of a c f ts
  side_by_side c f k no_terms = refl
  side_by_side c f k (and t ts) = tally_append c (map (under k) (active_parts a f t)) (active_children a f (suc k) ts) ∙ (λ i. join ((tally_under c k (active_parts a f t) ∙ sym (is_tallied c f t)) i) (side_by_side c f (suc k) ts i))

  pub summary_parallel : (c f : ℕ) (ts : Terms) → summary_of a c f (parallel ts) ≡ summaries_of a c f ts
  summary_parallel c f ts = is_tallied c f (parallel ts) ∙ here_adds c f (parallel ts) (active_children a f 0 ts) refl ∙ side_by_side c f 0 ts

  pub summary_select : (c f : ℕ) (ts : Terms) → summary_of a c f (select ts) ≡ summaries_of a c f ts
  summary_select c f ts = is_tallied c f (select ts) ∙ here_adds c f (select ts) (active_children a f 0 ts) refl ∙ side_by_side c f 0 ts

  -- ---------------------------------------------------------- another clock

  own_due : (c by : ℕ) (o : Option ℕ) → option_map (λ left. (c + by) + left) o ≡ option_map (λ d. d + by) (option_map (λ left. c + left) o)
  own_due c by None = refl
  own_due c by (Some x) = ap Some (let e : (c + by) + x ≡ (c + x) + by = omega arith in e)

  -- a clock that is behind: what is due there is due so much later here
  pub summary_shifted : (c by f : ℕ) (t : Term) → summary_of a (c + by) f t ≡ shifted by (summary_of a c f t)
  summary_shifted c by f t = λ i. record (summary_of a c f t) { due = own_due c by (least_of (noted (waiting a) (active_parts a f t))) i }
