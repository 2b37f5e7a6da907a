-- What the crate's own functions ask of a layer, so that every entry that they read is there and no number on the way overflows.
use Rattle.std.specs.Prelude.{ℕ, ◌≤◌, ◌<◌}
use Rattle.layer.specs.declared.LayerList.{LayerList}
use Rattle.layer.specs.Call.{attachment, limit, most_layers}

-- a layer on rows of so many places: "a c not below d" and "a d above the rows' length" are refused
pub record Fitting (places c d : ℕ) : Type 0 where
  pub ordered : c < d
  pub within : d ≤ places

-- a list of layers whose costs by a row of so many places are written to an answer row of so much room
pub record Writable (places : ℕ) (list : LayerList) (room : ℕ) : Type 0 where
  pub count_most : list.count ≤ most_layers
  pub count_fits : list.count ≤ room
  pub fitting : (i : ℕ) → i < list.count → Fitting places (attachment list i) (limit list i)
