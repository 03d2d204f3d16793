-- The two families of addresses.
use Rattle.std.specs.Prelude.{ℕ}
use Rattle.std.specs.declared.net.ip_addr.IpAddr.{IpAddr}
use Rattle.std.specs.declared.net.ip_addr.IpAddr.TheVariants.{V4, V6}

-- how many bits an address has
abbrev pub width : IpAddr → ℕ
width (V4 a) = 32
width (V6 a) = 128
