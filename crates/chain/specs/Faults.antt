-- The layer, the code and the place of each fault.
use Rattle.std.specs.Prelude.{ℕ}
use Rattle.line.specs.Faults.{line_code, line_place}
use Rattle.chain.specs.declared.fault.Layer.{Layer}
use Rattle.chain.specs.declared.fault.Layer.TheVariants as layer
use Rattle.chain.specs.declared.fault.ChainFault.{ChainFault}
use Rattle.chain.specs.declared.fault.ChainFault.TheVariants as chain
use Rattle.chain.specs.declared.fault.RackFault.{RackFault}
use Rattle.chain.specs.declared.fault.RackFault.TheVariants as rack

abbrev pub chain_code : ChainFault → ℕ
chain_code (chain.Line fault) = line_code fault
chain_code chain.UnknownCommand = 0x02
chain_code (chain.MissingByte index) = 0x22
chain_code (chain.TopBit index) = 0x22
chain_code (chain.ExtraByte index) = 0x22
chain_code (chain.AnswerTooLong index) = 0x1c

abbrev pub chain_place : ChainFault → ℕ
chain_place (chain.Line fault) = line_place fault
chain_place chain.UnknownCommand = 0
chain_place (chain.MissingByte index) = index
chain_place (chain.TopBit index) = index
chain_place (chain.ExtraByte index) = index
chain_place (chain.AnswerTooLong index) = index

abbrev pub chain_layer : ChainFault → Layer
chain_layer (chain.Line fault) = layer.Line
chain_layer chain.UnknownCommand = layer.Chain
chain_layer (chain.MissingByte index) = layer.Chain
chain_layer (chain.TopBit index) = layer.Chain
chain_layer (chain.ExtraByte index) = layer.Chain
chain_layer (chain.AnswerTooLong index) = layer.Chain

abbrev pub rack_layer : RackFault → Layer
rack_layer (rack.Chain fault) = chain_layer fault
rack_layer (rack.NoProcess index) = layer.Table
rack_layer (rack.NoParameter index) = layer.Table
rack_layer (rack.WrongType index) = layer.Table
rack_layer (rack.NotWritable index) = layer.Table
rack_layer (rack.Secured index) = layer.Table
rack_layer (rack.NotReadable index) = layer.Table
rack_layer (rack.BadValue index) = layer.Table
rack_layer (rack.BadLength index) = layer.Table
rack_layer (rack.OverLimit index) = layer.Table

abbrev pub rack_code : RackFault → ℕ
rack_code (rack.Chain fault) = chain_code fault
rack_code (rack.NoProcess index) = 0x03
rack_code (rack.NoParameter index) = 0x04
rack_code (rack.WrongType index) = 0x05
rack_code (rack.NotWritable index) = 0x0d
rack_code (rack.Secured index) = 0x0d
rack_code (rack.NotReadable index) = 0x11
rack_code (rack.BadValue index) = 0x06
rack_code (rack.BadLength index) = 0x06
rack_code (rack.OverLimit index) = 0x06

abbrev pub rack_place : RackFault → ℕ
rack_place (rack.Chain fault) = chain_place fault
rack_place (rack.NoProcess index) = index
rack_place (rack.NoParameter index) = index
rack_place (rack.WrongType index) = index
rack_place (rack.NotWritable index) = index
rack_place (rack.Secured index) = index
rack_place (rack.NotReadable index) = index
rack_place (rack.BadValue index) = index
rack_place (rack.BadLength index) = index
rack_place (rack.OverLimit index) = index

-- the faults of a chain, as the rack carries them
abbrev pub missing : ℕ → RackFault
missing i = rack.Chain (chain.MissingByte i)

abbrev pub top_bit : ℕ → RackFault
top_bit i = rack.Chain (chain.TopBit i)

abbrev pub extra : ℕ → RackFault
extra i = rack.Chain (chain.ExtraByte i)

abbrev pub too_long : ℕ → RackFault
too_long i = rack.Chain (chain.AnswerTooLong i)
