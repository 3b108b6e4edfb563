-- A device with other buffers.
use Rattle.gor_flush.specs.declared.device.Device.{Device}
use Rattle.gor_journal.specs.declared.buffers.Buffers.{Buffers}

abbrev pub holding : {D : Type 0} → Device D → Buffers → Device D
holding d buffers = record d { buffers = buffers }
