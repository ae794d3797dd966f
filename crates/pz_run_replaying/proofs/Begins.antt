-- What a text begins with.
use Rattle.std.proofs.Common.{◌≡◌, ◌≤◌, ◌<◌, refl, sym, subst, ap, ◌∙◌, ℕ, Bool, true, false, List, [], ◌∷◌, ◌++◌, length, take, drop, arith, length-append}
use Rattle.std.specs.Prelude.{nat_eq, ◌||◌}
use Rattle.std.specs.List.{list_any}
use Rattle.std.proofs.lemmas.Bool.{false≢true}
use Rattle.pz_trace.specs.declared.headings.Heading.{Heading}
use Rattle.pz_trace.specs.declared.headings.Heading.TheVariants.{Step, Other}
use Rattle.pz_trace.specs.Headings.{IsHeading}
use Rattle.pz_trace.specs.Laws.{Unbroken, IsLine}
use Rattle.pz_run_replaying.specs.Expected.{NamesOffer}
use Rattle.pz_run_replaying.specs.devices.Known.{Known}
use Rattle.pz_run_replaying.specs.devices.Fronts.{StartsWith}
use Rattle.pz_run_replaying.proofs.Expectings.{one_named}

take_whole : (front rest : List ℕ) → take (length front) (front ++ rest) ≡ front
take_whole [] rest = refl
take_whole (x ∷ front) rest = ap (λ (l : List ℕ). x ∷ l) (take_whole front rest)

pub starts : (text line : List ℕ) → text ≡ line ++ drop (length line) text → StartsWith text line (length line)
starts text line is = record {
  counted = refl;
  within = omega (arith, ap (λ (l : List ℕ). length l) is, length-append line (drop (length line) text));
  front = ap (take (length line)) is ∙ take_whole line (drop (length line) text);
  splits = is;
}

-- no LF, no line

or_true : (b : Bool) → (b || true) ≡ true
or_true true = refl
or_true false = refl

broken : (front left : List ℕ) → list_any (nat_eq 10) ((front ++ (10 ∷ [])) ++ left) ≡ true
broken [] left = refl
broken (x ∷ front) left = ap (λ (b : Bool). nat_eq 10 x || b) (broken front left) ∙ or_true (nat_eq 10 x)

pub no_line : (rest line left : List ℕ) → Unbroken rest → IsLine line → rest ≡ line ++ left → ⊥
no_line rest line left unbroken x is =
    false≢true (sym unbroken ∙ ap (list_any (nat_eq 10)) (is ∙ ap (λ (l : List ℕ). l ++ left) x.ends) ∙ broken x.front left)

pub none_unbroken : (rest : List ℕ) → Unbroken rest → (k : ℕ) → NamesOffer rest k → ⊥
none_unbroken rest unbroken k x = no_line rest x.line x.left unbroken x.is_line x.begins

-- the heading of the next line

pub named : (rest line left : List ℕ) (clock n k : ℕ) (h : Heading) → IsLine line → rest ≡ line ++ left → IsHeading line h → h ≡ Step clock n k → NamesOffer rest k
named rest line left clock n k h is_line begins heading is = record { line = line; is_line = is_line; left = left; begins = begins; clock = clock; n = n; heading = subst (IsHeading line) is heading }

pub none_past : Known → (rest : List ℕ) (offers k : ℕ) → NamesOffer rest k → offers ≤ k → (l : ℕ) → l < offers → NamesOffer rest l → ⊥
none_past known rest offers k x past l within y = omega (arith, past, within, one_named known rest l k y x)

step_other : {clock n k : ℕ} → Step clock n k ≡ Other → ⊥
step_other h = cc

pub none_other : Known → (rest line left : List ℕ) (h : Heading) → IsLine line → rest ≡ line ++ left → IsHeading line h → h ≡ Other → (l : ℕ) → NamesOffer rest l → ⊥
none_other known rest line left h is_line begins heading is l y =
    let same = known.one_line y.line line y.left left y.is_line is_line (sym y.begins ∙ begins) in
    step_other (known.one_heading line (Step y.clock y.n l) Other (subst (λ (x : List ℕ). IsHeading x (Step y.clock y.n l)) same.same_line y.heading) (subst (IsHeading line) is heading))
