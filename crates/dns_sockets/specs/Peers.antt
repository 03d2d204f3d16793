-- Peers, and the addresses of their sockets.
use Rattle.std.specs.Prelude.{◌≡◌, ℕ, Bool, true, false}
use Rattle.std.specs.Net.Addr.{IsCanonicalOf, MatchIp, embedded_segments, ipv6_segments}
use Rattle.std.specs.declared.net.ip_addr.IpAddr.{IpAddr}
use Rattle.std.specs.declared.net.ipv4_addr.Ipv4Addr.{Ipv4Addr}
use Rattle.std.specs.declared.net.socket_addr.SocketAddr.{SocketAddr}
use Rattle.std.specs.Net.Socket.{socket_ip, socket_port}
use Rattle.dns_primary.specs.declared.event.Peer.{Peer}

-- Who a peer is, by the address of its socket: that address and its port; where a socket of IPv6 shows an
-- IPv4 address as ::ffff:a.b.c.d, the IPv4 address (RFC 4291 2.5.5.2). It sent to the server's address with
-- this index.
pub record IsPeerOf (socket : SocketAddr) (local : ℕ) (peer : Peer) : Type 0 where
  pub address : MatchIp (socket_ip socket) (λ _. peer.address ≡ socket_ip socket)
      (λ shown. IsCanonicalOf shown peer.address)
  pub port : peer.port ≡ socket_port socket
  pub local_is : peer.local ≡ local

-- Where an IPv4 address is sent to: on a socket of IPv6 to ::ffff:a.b.c.d.
abbrev pub IsShownAs : Bool → Ipv4Addr → IpAddr → Type 0
IsShownAs by_ipv6 ip shown =
    MatchIp shown (λ plain. (by_ipv6 ≡ false) × (plain ≡ ip))
    (λ mapped. (by_ipv6 ≡ true) × (ipv6_segments mapped ≡ embedded_segments 0xffff ip))

-- Where what goes to a peer is sent: to its port, and to its address as the socket shows it.
pub record IsAddressOf (by_ipv6 : Bool) (peer : Peer) (socket : SocketAddr) : Type 0 where
  pub address : MatchIp peer.address (λ ip. IsShownAs by_ipv6 ip (socket_ip socket))
      (λ _. socket_ip socket ≡ peer.address)
  pub port : socket_port socket ≡ peer.port
