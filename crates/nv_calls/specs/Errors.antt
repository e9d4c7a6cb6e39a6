-- The errors of Linux (errno(3)), negative as results are.
use Rattle.std.specs.Prelude.{ℤ, negsuc}

abbrev pub ENOENT : ℤ
ENOENT = negsuc 1

abbrev pub EINTR : ℤ
EINTR = negsuc 3

abbrev pub EBADF : ℤ
EBADF = negsuc 8

abbrev pub EAGAIN : ℤ
EAGAIN = negsuc 10

abbrev pub EFAULT : ℤ
EFAULT = negsuc 13

abbrev pub EEXIST : ℤ
EEXIST = negsuc 16

abbrev pub ENOTDIR : ℤ
ENOTDIR = negsuc 19

abbrev pub EINVAL : ℤ
EINVAL = negsuc 21

abbrev pub EMFILE : ℤ
EMFILE = negsuc 23

abbrev pub ENOTTY : ℤ
ENOTTY = negsuc 24

abbrev pub EFBIG : ℤ
EFBIG = negsuc 26

abbrev pub ENOSPC : ℤ
ENOSPC = negsuc 27

abbrev pub ESPIPE : ℤ
ESPIPE = negsuc 28

abbrev pub EPIPE : ℤ
EPIPE = negsuc 31

abbrev pub ERANGE : ℤ
ERANGE = negsuc 33

abbrev pub ENAMETOOLONG : ℤ
ENAMETOOLONG = negsuc 35

abbrev pub ENOSYS : ℤ
ENOSYS = negsuc 37

abbrev pub ENOTSOCK : ℤ
ENOTSOCK = negsuc 87

abbrev pub EADDRINUSE : ℤ
EADDRINUSE = negsuc 97

abbrev pub ENOTCONN : ℤ
ENOTCONN = negsuc 106
