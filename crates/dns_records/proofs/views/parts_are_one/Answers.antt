use Rattle.dns_records.proofs.Once.{name_once, mx_once, srv_once, soa_once}
use Rattle.dns_records.proofs.Joined.{txt_once}
use Rattle.dns_records.proofs.views.parts_are_one.Goals as goal

pub returns : goal.returns
returns c = record { name = name_once; mx = mx_once; srv = srv_once; soa = soa_once; txt = txt_once }
