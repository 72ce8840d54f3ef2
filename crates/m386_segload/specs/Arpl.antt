-- What ARPL does to a selector.
use Rattle.std.specs.Prelude.{ℕ, Bool, true, false, ◌+◌, ◌*◌, ◌/◌, nat_lt, if◌then◌else◌}
use Rattle.m386_desc.specs.Selector.{rpl_of}

-- The selector with the RPL of the other where that is higher, and whether it was raised.
-- Source: Intel 80386 PRM 6.3.6.2, 17.2.2.11, ARPL
unfoldable pub arpl_of : ℕ → ℕ → ℕ × Bool
arpl_of destination source =
    if nat_lt (rpl_of destination) (rpl_of source) then (destination / 4 * 4 + rpl_of source, true)
    else (destination, false)
