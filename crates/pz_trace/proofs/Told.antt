-- What the first line of a text tells.
use Rattle.std.proofs.Common.{◌≡◌, refl, sym, ap, subst, ◌∙◌, ℕ, List, [], ◌∷◌, ◌++◌, Option, Some, None, arith}
use Rattle.std.specs.Prelude.{MatchOption}
use Rattle.pz_trace.specs.declared.forms.Form.{Form}
use Rattle.pz_trace.specs.declared.forms.Form.TheVariants.{One, Two, Three}
use Rattle.pz_trace.specs.Lines.{newline, header}
use Rattle.pz_trace.specs.Forms.{IsForm, IsWritten, HasHeader}
use Rattle.pz_trace.specs.Laws.{Unbroken, IsLine, OneFormIsTold}
use Rattle.pz_trace.proofs.Digits.{lacks_first, lacks_rest}
use Rattle.pz_trace.proofs.Headed.{one_first_line}
use Rattle.pz_trace.proofs.Headers.{headers_differ}
use Rattle.pz_trace.proofs.Unbroken.{header_lines}

-- a text that begins with a line has an LF
no_line : (front rest : List ℕ) → Unbroken ((front ++ newline) ++ rest) → ⊥
no_line [] rest unbroken = lacks_first 10 10 rest unbroken refl
no_line (x ∷ front) rest unbroken = no_line front rest (lacks_rest 10 x ((front ++ newline) ++ rest) unbroken)

pub no_header_without : (text : List ℕ) → Unbroken text → (f : Form) → HasHeader f text → ⊥
no_header_without text unbroken f has =
    let line = header_lines f in
    no_line line.front has.rest (subst (λ (l : List ℕ). Unbroken (l ++ has.rest)) line.ends (subst Unbroken has.begins unbroken))

-- the form that the first line tells is that of the text
pub told_first : (r : Option Form) (text line rest : List ℕ) → IsLine line → text ≡ line ++ rest
    → MatchOption r ((f : Form) → IsForm f → line ≡ header f → ⊥) (λ f. IsForm f × (line ≡ header f))
    → MatchOption r ((f : Form) → HasHeader f text → ⊥) (λ f. HasHeader f text)
told_first None text line rest is_line is other =
    λ f has. other f has.is_form (one_first_line line (header f) rest has.rest is_line (header_lines f) (sym is ∙ has.begins)).same_line
told_first (Some f) text line rest is_line is tells = record {
  is_form = tells.0;
  rest = rest;
  begins = is ∙ ap (λ (l : List ℕ). l ++ rest) tells.1;
}

written : (f : Form) → IsForm f → IsWritten f
written One is = tt
written Two is = tt
written (Three units) is = omega (arith, is.1)

pub one_form_is_told : OneFormIsTold
one_form_is_told f g text has other =
    headers_differ f g (written f has.is_form) (written g other.is_form)
    (one_first_line (header f) (header g) has.rest other.rest (header_lines f) (header_lines g) (sym has.begins ∙ other.begins)).same_line
