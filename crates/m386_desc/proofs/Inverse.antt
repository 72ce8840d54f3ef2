-- The bytes of a descriptor hold it.
use Rattle.std.proofs.Common.{◌≡◌, ◌<◌, ◌^◌, arith, refl}
use Rattle.m386_base.specs.declared.desc.Desc.{Desc}
use Rattle.m386_base.proofs.Descriptors.{same_desc}
use Rattle.m386_desc.specs.Bytes.{descriptor_in, descriptor_bytes}

pub descriptor_in-bytes_of : (d : Desc) → d.base < 2 ^ 32 → descriptor_in (descriptor_bytes d) ≡ d
unfolding descriptor_in descriptor_bytes
descriptor_in-bytes_of d base_fits =
    let limit : d.raw_limit < 2 ^ 20 = d.limit_fits in
    let flags : d.flags < 16 = d.flags_fit in
    same_desc _ d (omega arith) (omega arith) refl (omega arith)

pub ruleset inverse = (descriptor_in-bytes_of)
