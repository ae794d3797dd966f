-- What a call below the top call hands out, unless a write failed or memory was wanting.
use Rattle.std.specs.Prelude.{◌≡◌, ◌≢◌, List, ℕ, Option, true}
use Rattle.pz_io.specs.Outside.{FilesState, lookup}
use Rattle.pz_sim.specs.pz_term_simulator.Simulations.{Simulation}
use Rattle.pz_run_output.specs.declared.status.Status.{Status}
use Rattle.pz_run_output.specs.declared.status.Status.TheVariants.{WriteFault, NoMemory}
use Rattle.pz_run_output.specs.Files.{JobFile}
use Rattle.pz_run.specs.HandedOut.{FileHandsOut}
use Rattle.pz_run_output.specs.Promises.{CameThrough}

abbrev pub Hands : (Option Simulation → Type 0) → Status → Option Simulation → Type 0
Hands Q given left = given ≢ WriteFault → given ≢ NoMemory → Q left

-- over told files, where they did not fail: of the file of this name among them
abbrev pub FileHands : JobFile → (List ℕ → Option Simulation → Type 0) → FilesState → FilesState → Status → Option Simulation → Type 0
FileHands file Q f g given left = f.told ≡ true → CameThrough f g given → FileHandsOut file Q (lookup f.held file.name) left
