-- Trees that are told alike are equal.
use Rattle.std.proofs.Common.{◌≡◌, ℕ, List, [], ◌∷◌, refl, ap}
use Rattle.std.specs.Coded.{coded_list}
use base.Stored.{Gv, gnil, gnum, gcons}
use Rattle.pz_tree.specs.declared.tree.Tree.{Tree}
use Rattle.pz_tree.specs.contracts.tree.Tree as tree_row
use Rattle.pz_sim.specs.devices.Borrowed.{flat, told}

record Same (a b : Gv) (ns ks : List ℕ) : Type 0 where
  pub codes : a ≡ b
  pub rests : ns ≡ ks

flat_same : (a b : Gv) (ns ks : List ℕ) → flat a ns ≡ flat b ks → Same a b ns ks
flat_same gnil gnil ns ks e = record { codes = refl; rests = cc }
flat_same gnil (gnum k) ns ks e = cc
flat_same gnil (gcons c d) ns ks e = cc
flat_same (gnum n) gnil ns ks e = cc
flat_same (gnum n) (gnum k) ns ks e = record { codes = ap gnum (let same : n ≡ k = cc in same); rests = cc }
flat_same (gnum n) (gcons c d) ns ks e = cc
flat_same (gcons a b) gnil ns ks e = cc
flat_same (gcons a b) (gnum k) ns ks e = cc
flat_same (gcons a b) (gcons c d) ns ks e =
    let first = flat_same a c (flat b ns) (flat d ks) (let tail : flat a (flat b ns) ≡ flat c (flat d ks) = cc in tail) in
    let second = flat_same b d ns ks first.rests in
    record { codes = λ i. gcons (first.codes i) (second.codes i); rests = second.rests }

pub told_same : (ts us : List Tree) → told ts ≡ told us → ts ≡ us
told_same ts us e = (coded_list tree_row.the_row.coded).inj ts us (flat_same ((coded_list tree_row.the_row.coded).code ts) ((coded_list tree_row.the_row.coded).code us) [] [] e).codes

-- what is borrowed, by two names, keeps its trees
pub lent_same : (n k n1 k1 : ℕ) (ts us : List Tree) → n ∷ (k ∷ told ts) ≡ n1 ∷ (k1 ∷ told us) → ts ≡ us
lent_same n k n1 k1 ts us e = told_same ts us (let same : told ts ≡ told us = cc in same)
