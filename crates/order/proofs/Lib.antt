mod Routing
