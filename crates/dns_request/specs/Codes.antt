-- Response codes (RFC 1035 4.1.1, RFC 2136 2.2).
use Rattle.std.specs.Prelude.{ℕ}

abbrev pub rcode_formerr : ℕ
rcode_formerr = 1

abbrev pub rcode_servfail : ℕ
rcode_servfail = 2

abbrev pub rcode_nxdomain : ℕ
rcode_nxdomain = 3

abbrev pub rcode_notimp : ℕ
rcode_notimp = 4

abbrev pub rcode_refused : ℕ
rcode_refused = 5

abbrev pub rcode_notauth : ℕ
rcode_notauth = 9
