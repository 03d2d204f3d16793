use Rattle.std.proofs.Common.{◌≡◌, sym}
use Rattle.dns_primary.specs.Step.{Event}
use Rattle.dns_primary.specs.Step as machine
use Rattle.dns_replay.specs.Commands.{said_command}
use Rattle.dns_replay.specs.Scripts.{Happens, commanded_by}
use Rattle.dns_replay.proofs.Led.{does_nothing, does_plan, does_said}
use Rattle.dns_replay.proofs.run.run_command.Goals as goal

pub returns-in-Nothing : goal.returns-in-Nothing
returns-in-Nothing g c = rw c.in-Nothing.is (does_nothing g.D.ScriptDevice.left_by c.args.world.origins.now c.args.world.settings.now c.args.primary.now c.args.devices.now.items (g.W.Write.contents c.args.out.now))

pub returns-in-Fail : goal.returns-in-Fail
returns-in-Fail g c = rw c.in-Fail.is (does_plan g.D.ScriptDevice.left_by c.args.world.origins.now c.args.world.settings.now c.run_plan.result c.args.primary.now c.args.devices.now.items (g.W.Write.contents c.args.out.now) (g.W.Write.contents c.run_plan.new.out) (c.run_plan.ensures c.args.devices.now.items))

pub returns-in-Stop : goal.returns-in-Stop
returns-in-Stop g c = rw c.in-Stop.is (does_plan g.D.ScriptDevice.left_by c.args.world.origins.now c.args.world.settings.now c.run_plan-in-Stop.result c.args.primary.now c.args.devices.now.items (g.W.Write.contents c.args.out.now) (g.W.Write.contents c.run_plan-in-Stop.new.out) (c.run_plan-in-Stop.ensures c.args.devices.now.items))

pub returns-in-Crash : goal.returns-in-Crash
returns-in-Crash g c = rw (c.in-Crash.is, sym c.deref.ensures.value) c.crash.ensures

pub returns-in-Reopen : goal.returns-in-Reopen
returns-in-Reopen g c = rw (c.in-Reopen.is, sym c.deref-in-Reopen.ensures.value) c.crash-in-Reopen.ensures

pub returns-in-Datagram : goal.returns-in-Datagram
returns-in-Datagram g c =
    let event : Event = machine.Datagram c.peer_of.result c.as_slice.result.now in
    let is : commanded_by (said_command c.args.command.now) ≡ Happens event = rw (c.in-Datagram.is, c.peer_of.ensures, c.as_slice.ensures.value) in
    does_said g.D.ScriptDevice.left_by c.args.world.origins.now c.args.world.settings.now (commanded_by (said_command c.args.command.now)) event c.run_event.result c.args.primary.now c.run_event.new.primary c.args.devices.now.items c.run_event.new.devices.items (g.W.Write.contents c.args.out.now) (g.W.Write.contents c.run_event.new.out) is c.run_event.ensures

pub returns-in-Connect : goal.returns-in-Connect
returns-in-Connect g c =
    let event : Event = machine.Connect c.peer_of-in-Connect.result in
    let is : commanded_by (said_command c.args.command.now) ≡ Happens event = rw (c.in-Connect.is, c.peer_of-in-Connect.ensures) in
    does_said g.D.ScriptDevice.left_by c.args.world.origins.now c.args.world.settings.now (commanded_by (said_command c.args.command.now)) event c.run_event-in-Connect.result c.args.primary.now c.run_event-in-Connect.new.primary c.args.devices.now.items c.run_event-in-Connect.new.devices.items (g.W.Write.contents c.args.out.now) (g.W.Write.contents c.run_event-in-Connect.new.out) is c.run_event-in-Connect.ensures

pub returns-in-Message : goal.returns-in-Message
returns-in-Message g c =
    let event : Event = machine.Arrives c.in-Message.number c.as_slice-in-Message.result.now in
    let is : commanded_by (said_command c.args.command.now) ≡ Happens event = rw (c.in-Message.is, c.as_slice-in-Message.ensures.value) in
    does_said g.D.ScriptDevice.left_by c.args.world.origins.now c.args.world.settings.now (commanded_by (said_command c.args.command.now)) event c.run_event-in-Message.result c.args.primary.now c.run_event-in-Message.new.primary c.args.devices.now.items c.run_event-in-Message.new.devices.items (g.W.Write.contents c.args.out.now) (g.W.Write.contents c.run_event-in-Message.new.out) is c.run_event-in-Message.ensures

pub returns-in-Pump : goal.returns-in-Pump
returns-in-Pump g c =
    let event : Event = machine.Pump c.in-Pump.number in
    let is : commanded_by (said_command c.args.command.now) ≡ Happens event = rw (c.in-Pump.is) in
    does_said g.D.ScriptDevice.left_by c.args.world.origins.now c.args.world.settings.now (commanded_by (said_command c.args.command.now)) event c.run_event-in-Pump.result c.args.primary.now c.run_event-in-Pump.new.primary c.args.devices.now.items c.run_event-in-Pump.new.devices.items (g.W.Write.contents c.args.out.now) (g.W.Write.contents c.run_event-in-Pump.new.out) is c.run_event-in-Pump.ensures

pub returns-in-Close : goal.returns-in-Close
returns-in-Close g c =
    let event : Event = machine.Closed c.in-Close.number in
    let is : commanded_by (said_command c.args.command.now) ≡ Happens event = rw (c.in-Close.is) in
    does_said g.D.ScriptDevice.left_by c.args.world.origins.now c.args.world.settings.now (commanded_by (said_command c.args.command.now)) event c.run_event-in-Close.result c.args.primary.now c.run_event-in-Close.new.primary c.args.devices.now.items c.run_event-in-Close.new.devices.items (g.W.Write.contents c.args.out.now) (g.W.Write.contents c.run_event-in-Close.new.out) is c.run_event-in-Close.ensures

pub returns-in-Flush : goal.returns-in-Flush
returns-in-Flush g c =
    let event : Event = machine.Flush in
    let is : commanded_by (said_command c.args.command.now) ≡ Happens event = rw (c.in-Flush.is) in
    does_said g.D.ScriptDevice.left_by c.args.world.origins.now c.args.world.settings.now (commanded_by (said_command c.args.command.now)) event c.run_event-in-Flush.result c.args.primary.now c.run_event-in-Flush.new.primary c.args.devices.now.items c.run_event-in-Flush.new.devices.items (g.W.Write.contents c.args.out.now) (g.W.Write.contents c.run_event-in-Flush.new.out) is c.run_event-in-Flush.ensures

pub returns-in-Checkpoint : goal.returns-in-Checkpoint
returns-in-Checkpoint g c =
    let event : Event = machine.Checkpoint c.in-Checkpoint.index in
    let is : commanded_by (said_command c.args.command.now) ≡ Happens event = rw (c.in-Checkpoint.is) in
    does_said g.D.ScriptDevice.left_by c.args.world.origins.now c.args.world.settings.now (commanded_by (said_command c.args.command.now)) event c.run_event-in-Checkpoint.result c.args.primary.now c.run_event-in-Checkpoint.new.primary c.args.devices.now.items c.run_event-in-Checkpoint.new.devices.items (g.W.Write.contents c.args.out.now) (g.W.Write.contents c.run_event-in-Checkpoint.new.out) is c.run_event-in-Checkpoint.ensures
