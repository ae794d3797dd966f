-- Names take no bytes and own nothing, so they can be made from nothing, whichever they are.
use Rattle.std.proofs.Common.{[], ◌∷◌, refl}
use seplogic.Ra.Ura.{Ura}
use mir.Val.{Val, vunit, vstruct, vcons, vnil}
use base.Fml.{Fml}
use base.Logic.{ent, emp}
use types.Logic.{Logic, sem}
use denote.Shadow.{makes_shadow}
use Rattle.pz_io.specs.contracts.names.Names as names

-- how the machine stores them
abbrev pub token : Val
token = vstruct (vcons vunit vnil)

abbrev pub Owned : names.the_row.Denot → Val → Fml
Owned r v = names.the_row.own_val r (v ∷ [])

pub made : {M : Type 1} {𝓤 : Ura M} (𝓛 : Logic 𝓤) (r : names.the_row.Denot) → ent 𝓤 (emp 𝓤) (sem 𝓛 (Owned r token))
made 𝓛 r = makes_shadow 𝓛 (Owned r token) ((λ vss. (tt, (tt, tt))), tt) (((vunit ∷ [], tt), (refl, (refl, tt))), tt)
