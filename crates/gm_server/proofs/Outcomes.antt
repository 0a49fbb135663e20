-- How the program ends on words: from what is said of their error, or done that they ask for.
use Rattle.std.proofs.Common.{◌≡◌, refl, List, [], Result, Ok, Err, inl, inr}
use Rattle.clap.specs.Words.{Text, HasKind, kind_of}
use Rattle.clap.specs.declared.error.Error.{Error}
use Rattle.clap.specs.declared.error.kind.ErrorKind.{ErrorKind}
use Rattle.clap.specs.declared.error.kind.ErrorKind.TheVariants as kinds
use Rattle.gm_options.specs.declared.gmd.Args.{Args}
use Rattle.gm_server.specs.declared.outcome.Outcome.{Outcome}
use Rattle.gm_server.specs.declared.outcome.Outcome.TheVariants.{Said, Served}
use Rattle.gm_server.specs.declared.outcome.RunError.{RunError}
use Rattle.gm_server.specs.declared.outcome.RunError.TheVariants as errors
use Rattle.gm_options.specs.Words.{fault_in, Reads}
use Rattle.gm_server.specs.Outcomes.{IsRequest, SaysSo, DoesSo, EndsAs}

-- memory that ran out is no request
no_request : (kind : ErrorKind) → kind ≡ kinds.OutOfMemory → IsRequest kind → ⊥
no_request kind is (inl help) = absurd cc
no_request kind is (inr version) = absurd cc

pub says_as : (words : List Text) (e : Error) (ended : Result Outcome RunError) → HasKind (fault_in words) e → SaysSo (kind_of e) ended → EndsAs words ended
says_as words e (Ok Said) (inl memory) says = absurd (no_request _ memory says)
says_as words e (Ok Said) (inr among) says = inl (kind_of e, among, says)
says_as words e (Ok (Served served)) has says = absurd says
says_as words e (Err errors.Arguments) (inl memory) says = absurd (says.1 memory)
says_as words e (Err errors.Arguments) (inr among) says = (kind_of e, among, says.0)
says_as words e (Err errors.Name) has says = absurd says
says_as words e (Err errors.AddressBesideSocket) has says = absurd says
says_as words e (Err errors.SocketCount) has says = absurd says
says_as words e (Err (errors.Socket error)) has says = absurd says
says_as words e (Err (errors.Listen address error)) has says = absurd says
says_as words e (Err (errors.Taken address error)) has says = absurd says
says_as words e (Err errors.Seed) has says = absurd says
says_as words e (Err (errors.Events error)) has says = absurd says
says_as words e (Err errors.Output) (inl memory) says = absurd (no_request _ memory says)
says_as words e (Err errors.Output) (inr among) says = inl (kind_of e, among, says)
says_as words e (Err (errors.Serve error)) has says = tt
says_as words e (Err (errors.Ended error)) has says = absurd says

pub does_as : (words : List Text) (args : Args) (ended : Result Outcome RunError) → fault_in words ≡ [] → Reads words args → DoesSo args ended → EndsAs words ended
does_as words args (Ok Said) valid reads does = inr (args, record { valid = valid; reads = reads }, does)
does_as words args (Ok (Served served)) valid reads does = (args, record { valid = valid; reads = reads }, does.0, does.1)
does_as words args (Err errors.Arguments) valid reads does = let name = (does refl).0 in absurd cc
does_as words args (Err errors.Name) valid reads does = (args, record { valid = valid; reads = reads }, (does refl).1)
does_as words args (Err errors.AddressBesideSocket) valid reads does = valid
does_as words args (Err errors.SocketCount) valid reads does = valid
does_as words args (Err (errors.Socket error)) valid reads does = valid
does_as words args (Err (errors.Listen address error)) valid reads does = valid
does_as words args (Err (errors.Taken address error)) valid reads does = valid
does_as words args (Err errors.Seed) valid reads does = valid
does_as words args (Err (errors.Events error)) valid reads does = valid
does_as words args (Err errors.Output) valid reads does = inr valid
does_as words args (Err (errors.Serve error)) valid reads does = tt
does_as words args (Err (errors.Ended error)) valid reads does = valid
