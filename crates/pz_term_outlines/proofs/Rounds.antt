-- The outline of what is around a part that has become another.
use Rattle.std.proofs.Common.{◌≡◌, ℕ, max, true, false, eqb, List, [], length, refl, sym, ap, ◌∙◌}
use Rattle.std.proofs.lemmas.Bool.{true≢false, eqb-true}
use Rattle.std.proofs.lemmas.List.{nil_from_length}
use Rattle.pz_classes_code.specs.declared.slot.Slot.{Slot}
use Rattle.pz_rules.specs.pz_state.States.{StateView}
use Rattle.pz_rules.specs.Terms.{Step, Steps, Term, done, sequence, frame, idle, handling, height}
use Rattle.pz_rules.specs.Settings.{Process, left_by, Home}
use Rattle.pz_rules.specs.Opening.{opened, opened_all}
use Rattle.pz_rules.specs.Framing.{framed}
use Rattle.pz_rules.specs.Leaving.{is_done, around, handled}
use Rattle.pz_term_outlines.specs.declared.outline.Outline.{Outline}
use Rattle.pz_term_outlines.specs.Capped.{capped}
use Rattle.pz_term_outlines.specs.Outlines.{outline, IsAbove, IsRound}
use Rattle.pz_term_outlines.proofs.Capping.{capped_max}

-- a term of which nothing is left
ends : (t : Term) → true ≡ is_done t → done ≡ t
ends done e = refl
ends t e = absurd (true≢false e)

module _ (h : Home) where
  round_sequence : (f : ℕ) (s : StateView) (t : Term) (rest : Steps) (i : ℕ) (x : Term) → is_done x ≡ false → left_by s (sequence x rest) ≡ around h f s (sequence t rest) i x
  round_sequence f s t rest i done not_done = absurd (true≢false not_done)
  round_sequence f s t rest i x not_done = refl

  round_handling : (s : StateView) (first : Term) (again : Step) (x : Term) → is_done x ≡ false → left_by s (handling first x again) ≡ handled h s first again x
  round_handling s first again done not_done = absurd (true≢false not_done)
  round_handling s first again x not_done = refl

  round_frame : (f : ℕ) (s : StateView) (number inputs : ℕ) (results : List Slot) (t : Term) (i : ℕ) (x : Term) → is_done x ≡ false
      → left_by s (framed number inputs results x) ≡ around h f s (frame number inputs results t) i x
  round_frame f s number inputs results t i done not_done = absurd (true≢false not_done)
  round_frame f s number inputs results t i x not_done = refl

  pub frame_bare : (left result : Outline) (results : List Slot) → left.done ≡ false → eqb (length results) 0 ≡ true
      → ((x : Term) (number inputs : ℕ) → left ≡ outline x → result ≡ outline (framed number inputs [] x))
      → (number inputs : ℕ) (t : Term) (i : ℕ) → IsRound h left (frame number inputs results t) i result
  frame_bare left result results not_done none round number inputs t i f s x same =
      round x number inputs same
      ∙ ap (λ (rs : List Slot). outline (framed number inputs rs x)) (sym (nil_from_length results (eqb-true (length results) 0 none)))
      ∙ ap (λ (p : Process). outline p.term) (round_frame f s number inputs results t i x (sym (ap (λ (o : Outline). o.done) same) ∙ not_done))

  -- what is left of a part decides, by its outline
  module _ (left result : Outline) where
    ended : (x : Term) → left.done ≡ true → left ≡ outline x → done ≡ x
    ended x is_true same = ends x (sym is_true ∙ ap (λ (o : Outline). o.done) same)

    undone : (x : Term) → left.done ≡ false → left ≡ outline x → is_done x ≡ false
    undone x is_false same = sym (ap (λ (o : Outline). o.done) same) ∙ is_false

    pub sequence_ended : (rest : Steps) → left.done ≡ true → ((s : StateView) → result ≡ outline (opened_all h rest s).term) → (t : Term) (i : ℕ) → IsRound h left (sequence t rest) i result
    sequence_ended rest is_true opens t i f s x same = opens s ∙ ap (λ (y : Term). outline (around h f s (sequence t rest) i y).term) (ended x is_true same)

    pub sequence_stays : (rest : Steps) → left.done ≡ false → ((y : Term) (n : ℕ) → left.height ≡ capped n → IsAbove y n → result ≡ outline y) → (t : Term) (i : ℕ) → IsRound h left (sequence t rest) i result
    sequence_stays rest is_false above t i f s x same =
        above (sequence x rest) (height x) (ap (λ (o : Outline). o.height) same) (record { one_more = refl; undone = refl; other = refl })
        ∙ ap (λ (p : Process). outline p.term) (round_sequence f s t rest i x (undone x is_false same))

    pub handled_ended : (first : Term) (again : Step) (n high part : ℕ) → left.done ≡ true → n ≡ capped (height first) → ((s : StateView) → high ≡ capped (height (opened h again s).term)) → part ≡ max n high
        → ((y : Term) (m : ℕ) → part ≡ capped m → IsAbove y m → result ≡ outline y) → (s : StateView) (x : Term) → left ≡ outline x → result ≡ outline (handled h s first again x).term
    handled_ended first again n high part is_true first_is high_is greater above s x same =
        let m = height (opened h again s).term in
        above (idle first (opened h again s).term again) (max (height first) m) (capped_max (height first) m n high part greater first_is (high_is s)) (record { one_more = refl; undone = refl; other = refl })
        ∙ ap (λ (y : Term). outline (handled h s first again y).term) (ended x is_true same)

    pub handled_stays : (first : Term) (again : Step) (n part : ℕ) → left.done ≡ false → n ≡ capped (height first) → part ≡ max n left.height
        → ((y : Term) (m : ℕ) → part ≡ capped m → IsAbove y m → result ≡ outline y) → (s : StateView) (x : Term) → left ≡ outline x → result ≡ outline (handled h s first again x).term
    handled_stays first again n part is_false first_is greater above s x same =
        above (handling first x again) (max (height first) (height x)) (capped_max (height first) (height x) n left.height part greater first_is (ap (λ (o : Outline). o.height) same)) (record { one_more = refl; undone = refl; other = refl })
        ∙ ap (λ (p : Process). outline p.term) (round_handling s first again x (undone x is_false same))
