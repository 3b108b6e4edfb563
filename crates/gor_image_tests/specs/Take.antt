-- When a device may take what waits, and write it.
use Rattle.std.specs.Prelude.{◌≢◌, IsTrue}
use Rattle.gor_gate.specs.Places.{IsEnsured}
use Rattle.gor_journal.specs.Bodies.{AreEmpty}
use Rattle.gor_flush.specs.Devices.{Shown}

-- its buffers are empty, and its key list and its log are two files, ensured
pub record CanTake (d : Shown) : Type 0 where
  pub empty : AreEmpty d.buffers
  pub two : d.keys.file ≢ d.log.file
  pub ensured : IsTrue d.tells → IsEnsured d.keys d.disk × IsEnsured d.log d.disk
